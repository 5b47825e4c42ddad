use Rattle.path_tree.proofs.Same.{node_same}
use Rattle.path_tree.proofs.laws.lookups_stay_the_same.Goals as goal

pub returns : goal.returns
returns c = node_same
