use Rattle.watch_desk.proofs.Over.{shots_tell}
use Rattle.watch_desk.proofs.laws.shots_tell_it.Goals as goal

pub returns : goal.returns
returns c = shots_tell
