use Rattle.folder_playout.proofs.Changing.{same_is, same_alike, carried, each_changes}
use Rattle.folder_playout.proofs.laws.trees_change.Goals as goal

pub returns : goal.returns
returns c = record { same = same_is; alike = same_alike; carries = carried; each = each_changes }
