use Rattle.watch_desk.proofs.Due.{each_is_told}
use Rattle.watch_desk.proofs.laws.each_change_is_told.Goals as goal

pub returns : goal.returns
returns c = each_is_told
