use Rattle.path_tree.proofs.Same.{files_stay}
use Rattle.path_tree.proofs.laws.files_stay_the_same.Goals as goal

pub returns : goal.returns
returns c = files_stay
