use Rattle.std.proofs.Common.{length}
use Rattle.history_lock.proofs.Dealing.{HasPart}
use Rattle.history_lock.proofs.lock.HistoryLock.gather.Given as goal

abbrev pub invariant-loop-other : goal.invariant-loop-other
invariant-loop-other g l = HasPart l.self l.passes.items l.fn.passes.items l.seat

abbrev pub decreases-loop-other : goal.decreases-loop-other
decreases-loop-other g l = length l.passes.items
