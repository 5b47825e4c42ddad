use Rattle.std.proofs.Common.{arith}
use Rattle.std.proofs.lemmas.Grind.{common_steps}
use Rattle.path_tree.proofs.Order.{below-length, next_name-below, next_name-none}
use Rattle.path_tree.proofs.path.Path.next_below.Goals as goal

pub index-requires : goal.index-requires
index-requires c = grind (arith, common_steps, below-length c.args.self.now c.args.other.now)

pub returns-then-is_above : goal.returns-then-is_above
returns-then-is_above c = grind (arith, common_steps, next_name-below c.args.self.now c.args.other.now c.index.result.now)

pub returns-else-is_above : goal.returns-else-is_above
returns-else-is_above c = grind (arith, common_steps, next_name-none c.args.self.now c.args.other.now)
