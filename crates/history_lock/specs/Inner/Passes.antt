-- The seat that all passes were joined to.
use Rattle.std.specs.Prelude.{◌≡◌, ℕ, false, List, [], ◌∷◌, ◌++◌, length, map}
use Rattle.std.specs.declared.option.Option.{Option}
use Rattle.atomic_table.specs.declared.shared.Seat.{Seat}
use Rattle.history_lock.specs.History.{times, total}
use Rattle.history_lock.specs.declared.rule.View.{View}
use Rattle.history_lock.specs.declared.pass.Pass.{Pass}
use Rattle.history_lock.specs.declared.lock.HistoryLock.{HistoryLock}
use Rattle.history_lock.specs.Passes.{seen_of, own_of}

module _ {V E : Type 0} where
  -- one seat has what all the passes had: every list that they have seen, and their places
  abbrev pub HasAll : HistoryLock V E → List (Pass V E) → Seat (Option V) (View E) → Type 0
  HasAll l ps s = (s.table_id ≡ l.table.shared.table_id) × (s.me.1 ≡ []) × (s.me.0.parts ≡ length ps) × (s.me.0.holds ≡ false)
      × (s.me.0.heard ++ s.me.0.seen ∷ [] ≡ map seen_of ps) × ((place : ℕ) → times place s.me.0.own ≡ total (λ p. times place (own_of p)) ps)
