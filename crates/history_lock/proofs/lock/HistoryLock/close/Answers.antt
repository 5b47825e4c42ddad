use Rattle.history_lock.proofs.Dealing.{found_some, closed_opening, closed_seen, closed_owned}
use Rattle.history_lock.proofs.lock.HistoryLock.close.Goals as goal

pub unreachable-requires : goal.unreachable-requires
unreachable-requires g c = c.in_default.not-Some _ (found_some c.args.self g.V.Chronicled.list c.args.passes.items c.gather-seat.result c.gather-seat.ensures c.requires.1 _ _ c.close_with-closed.ensures.values.2 _ c.take-found.ensures.value)

pub returns-clause-opening : goal.returns-clause-opening
returns-clause-opening g c = closed_opening c.args.self g.V.Chronicled.list c.args.passes.items c.gather-seat.result c.gather-seat.ensures c.requires.1 _ _ c.close_with-closed.ensures.values.2 c.in-Some.value c.in-Some.ensures.value

pub returns-clause-seen : goal.returns-clause-seen
returns-clause-seen g c = closed_seen c.args.self g.V.Chronicled.list c.args.passes.items c.gather-seat.result c.gather-seat.ensures c.requires.1 _ _ c.close_with-closed.ensures.values.2 c.in-Some.value c.in-Some.ensures.value

pub returns-clause-owned : goal.returns-clause-owned
returns-clause-owned g c = closed_owned c.args.self g.V.Chronicled.list c.args.passes.items c.gather-seat.result c.gather-seat.ensures c.requires.1 _ _ c.close_with-closed.ensures.values.2 c.in-Some.value c.in-Some.ensures.value
