use Rattle.std.proofs.Common.{◌≡◌, ◌≤◌, ◌-◌, [], length}
use Rattle.std.specs.Vec.{vec_capacity}
use Rattle.history_lock.specs.Inner.History.{newcomer}
use Rattle.history_lock.specs.Passes.{AreFresh, opening_of}
use Rattle.history_lock.proofs.lock.HistoryLock.deal.Given as goal

abbrev pub invariant-loop-number : goal.invariant-loop-number
invariant-loop-number g l =
    (l.seat.table_id ≡ l.self.table.shared.table_id) × (l.seat.me ≡ (newcomer (l.seats - l.number) (opening_of g.V.Chronicled.list l.self), []))
    × (length l.passes.items ≡ l.number) × (l.seats ≤ vec_capacity l.passes) × AreFresh l.self (opening_of g.V.Chronicled.list l.self) 0 l.passes.items
