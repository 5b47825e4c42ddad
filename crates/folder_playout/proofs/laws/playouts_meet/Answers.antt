use Rattle.folder_playout.proofs.Hearing.{meets_of}
use Rattle.folder_playout.proofs.laws.playouts_meet.Goals as goal

pub returns : goal.returns
returns c = meets_of c.every_reception_meets.ensures
