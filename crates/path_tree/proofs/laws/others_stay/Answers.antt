use Rattle.path_tree.proofs.Others.{others}
use Rattle.path_tree.proofs.laws.others_stay.Goals as goal

pub returns : goal.returns
returns c = others
