use Rattle.watch_desk.proofs.Over.{each_is_told_after}
use Rattle.watch_desk.proofs.laws.each_change_is_told_after_its_candidate.Goals as goal

pub returns : goal.returns
returns c = each_is_told_after
