use Rattle.session.proofs.Words.{Pending, Holds, HasSplit, events_at, waiting_below}
use Rattle.session.proofs.plan.work_of.Given as goal

abbrev pub invariant-loop-line : goal.invariant-loop-line
invariant-loop-line l = (p : Pending) → Holds l.fn.interpreter p → HasSplit l.work (events_at p l.yielded) × Holds l.interpreter (waiting_below p l.yielded)
