use Rattle.std.proofs.Common.{arith}
use Rattle.std.proofs.lemmas.Grind.{common_steps}
use Rattle.path_tree.proofs.Order.{is_below-step, is_below-long, is_below-end}
use Rattle.path_tree.proofs.path.Path.is_above.Goals as goal

pub returns-then-others-own : goal.returns-then-others-own
returns-then-others-own c = grind (arith, common_steps, is_below-long c.args.self.now c.args.other.now)

pub loop-i-preserved : goal.loop-i-preserved
loop-i-preserved c = grind (arith, common_steps, is_below-step c.as_slice-own.result.now c.as_slice-others.result.now c.loop-i.i)

pub returns : goal.returns
returns c = grind (arith, common_steps, is_below-end c.as_slice-own.result.now c.as_slice-others.result.now c.loop-i.i)
