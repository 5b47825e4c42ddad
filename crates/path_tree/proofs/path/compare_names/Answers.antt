use Rattle.std.proofs.Common.{arith}
use Rattle.std.proofs.lemmas.Grind.{common_steps}
use Rattle.path_tree.proofs.Order.{cmp-ends}
use Rattle.path_tree.proofs.path.compare_names.Goals as goal

pub returns : goal.returns
returns c = grind (arith, common_steps, cmp-ends c.args.own.now c.args.others.now c.loop-i.i)
