use Rattle.session.proofs.Words.{◌≡◌, map, Pending, Holds, view_happening, AreInRange, events_at, waiting_below}
use Rattle.session.proofs.plan.happenings.Given as goal

abbrev pub invariant-loop-line : goal.invariant-loop-line
invariant-loop-line l = record {
  happened : (p : Pending) → Holds l.fn.interpreter p → map view_happening l.made.items ≡ events_at p l.yielded;
  range : AreInRange (map view_happening l.made.items);
  waits : (p : Pending) → Holds l.fn.interpreter p → Holds l.interpreter (waiting_below p l.yielded);
}
