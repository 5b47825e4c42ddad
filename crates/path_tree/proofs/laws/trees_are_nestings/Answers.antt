use Rattle.path_tree.proofs.Bridge.{trees_nested}
use Rattle.path_tree.proofs.laws.trees_are_nestings.Goals as goal

pub returns : goal.returns
returns c = trees_nested
