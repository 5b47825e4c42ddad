use Rattle.folder_playout.proofs.Judging.{accepted_first, refused_first}
use Rattle.folder_playout.proofs.laws.judged_as_first.Goals as goal

pub returns : goal.returns
returns c = record { accepted = accepted_first; refused = refused_first }
