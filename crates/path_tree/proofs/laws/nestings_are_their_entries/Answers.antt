use Rattle.path_tree.proofs.Bridge.{flat-nested}
use Rattle.path_tree.proofs.laws.nestings_are_their_entries.Goals as goal

pub returns : goal.returns
returns c = flat-nested
