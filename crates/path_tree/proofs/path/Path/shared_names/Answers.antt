use Rattle.std.proofs.Common.{arith}
use Rattle.std.proofs.lemmas.Grind.{common_steps}
use Rattle.path_tree.proofs.Order.{shared_step, shared_over}
use Rattle.path_tree.proofs.path.Path.shared_names.Goals as goal

pub returns-then-not-same_bytes-clause-shared : goal.returns-then-not-same_bytes-clause-shared
returns-then-not-same_bytes-clause-shared c = grind (arith, common_steps, shared_step c.as_slice-own.result.now c.as_slice-others.result.now c.loop-i.i)

pub loop-i-preserved : goal.loop-i-preserved
loop-i-preserved c = grind (arith, common_steps, shared_step c.as_slice-own.result.now c.as_slice-others.result.now c.loop-i.i)

pub returns-clause-shared : goal.returns-clause-shared
returns-clause-shared c = grind (arith, common_steps, shared_over c.as_slice-own.result.now c.as_slice-others.result.now c.loop-i.i)
