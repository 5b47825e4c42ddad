-- What a clause says of a pass and of the lock.
use Rattle.std.specs.Prelude.{◌≡◌, ℕ, suc, false, List, [], ◌∷◌, length}
use Rattle.history_lock.specs.History.{times, total, Each}
use Rattle.history_lock.specs.declared.pass.Pass.{Pass}
use Rattle.history_lock.specs.declared.lock.HistoryLock.{HistoryLock}

module _ {V E : Type 0} where
  -- the list that the pass has seen
  abbrev pub seen_of : Pass V E → List E
  seen_of p = p.seat.me.0.seen

  -- the places of its own entries
  abbrev pub own_of : Pass V E → List ℕ
  own_of p = p.seat.me.0.own

  abbrev pub number_of : Pass V E → ℕ
  number_of p = p.number

  -- how many passes the lock was made with
  abbrev pub seats_of : HistoryLock V E → ℕ
  seats_of l = l.table.shared.key.seats

  -- the list of the value that the lock was made with
  abbrev pub opening_of : (V → List E) → HistoryLock V E → List E
  opening_of list l = list l.table.shared.key.first.value

  -- a pass of this lock that holds nothing
  abbrev pub IsPassOf : HistoryLock V E → Pass V E → Type 0
  IsPassOf l p = (p.seat.table_id ≡ l.table.shared.table_id) × (p.seat.me.1 ≡ []) × (p.seat.me.0.parts ≡ 1) × (p.seat.me.0.holds ≡ false) × (p.seat.me.0.heard ≡ [])

  -- All passes of the lock: each is one of it, and there are as many as it was made with. That each is there once is its owner's to know: a pass can't be copied.
  abbrev pub AreAllPassesOf : HistoryLock V E → List (Pass V E) → Type 0
  AreAllPassesOf l ps = Each (IsPassOf l) ps × (length ps ≡ seats_of l)

  -- The passes that a lock is made with: numbered from the first on, each of the lock, has seen this list and has no places of its own
  abbrev pub AreFresh : HistoryLock V E → List E → ℕ → List (Pass V E) → Type 0
  AreFresh l seen first [] = Unit {0}
  AreFresh l seen first (p ∷ ps) = IsPassOf l p × (number_of p ≡ first) × (seen_of p ≡ seen) × (own_of p ≡ []) × AreFresh l seen (suc first) ps

  -- how often the passes have the place for their own
  abbrev pub owners : ℕ → List (Pass V E) → ℕ
  owners place ps = total (λ p. times place (own_of p)) ps
