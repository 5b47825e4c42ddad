use Rattle.shot_board.proofs.Naming.{reads}
use Rattle.shot_board.proofs.viewer.read.Goals as goal

pub enter_as-requires : goal.enter_as-requires
enter_as-requires g c = reads _ _
