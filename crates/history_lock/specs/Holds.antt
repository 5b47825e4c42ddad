-- What a clause says of a hold.
use Rattle.std.specs.Prelude.{◌≡◌, true, List, [], ◌∷◌, None}
use Rattle.std.specs.Borrow.{MutBor}
use Rattle.history_lock.specs.declared.pass.Pass.{Pass}
use Rattle.history_lock.specs.declared.lock.HistoryLock.{HistoryLock}
use Rattle.history_lock.specs.declared.hold.Hold.{Hold}

module _ {V E : Type 0} where
  abbrev pub value_of : Hold V E → V
  value_of h = h.value

  -- the lock that the value goes back to
  abbrev pub lock_of : Hold V E → HistoryLock V E
  lock_of h = h.lock.now

  -- the pass that holds it
  abbrev pub holder_of : Hold V E → Pass V E
  holder_of h = h.pass.now

  -- the list of the value that the hold got
  abbrev pub taken_of : Hold V E → List E
  taken_of h = h.pass.now.seat.me.0.seen

  -- the hold has the value of this lock
  abbrev pub IsHoldOf : HistoryLock V E → Hold V E → Type 0
  IsHoldOf l h = (h.lock.now.table.shared.table_id ≡ l.table.shared.table_id) × (h.pass.now.seat.table_id ≡ l.table.shared.table_id)
      × (h.pass.now.seat.me.1 ≡ (0, None) ∷ []) × (h.pass.now.seat.me.0.parts ≡ 1) × (h.pass.now.seat.me.0.holds ≡ true) × (h.pass.now.seat.me.0.heard ≡ [])

  -- what the hold does with its pass, it does with the one that was lent to it
  abbrev pub LendsPass : MutBor (Pass V E) → Hold V E → Type 0
  LendsPass p h = h.pass.ghost_name ≡ p.ghost_name
