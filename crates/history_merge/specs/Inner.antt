-- The opens that stand in no history yet; no public contract names it.
use Rattle.std.specs.Prelude.{◌≡◌, ℕ, suc, ◌<◌, ◌≤◌, ◌==◌, List, [], ◌∷◌, ◌++◌, map, flat_map, filter}
use Rattle.open_history.specs.Opens.{ReaderView}
use Rattle.open_history.specs.declared.entry.OpenEntry.{OpenEntry}
use Rattle.carousel_world.specs.Events.{Step}
use Rattle.carousel_world.specs.declared.event.Reply.{Reply}
use Rattle.history_merge.specs.declared.history.Waiting.{Waiting}
use Rattle.history_merge.specs.Merging.{Each, has_heard, opened_of}

-- a reader's number, and its opens that wait
pub record WaitingFields : Type 0 where
  pub reader : ℕ
  pub opens : List OpenEntry

abbrev pub view_waiting : Waiting → WaitingFields
view_waiting w = record { reader = w.reader; opens = w.opens.now }

-- all opens of a pass wait
abbrev pub all_wait : ReaderView → WaitingFields
all_wait p = record { reader = p.reader; opens = p.opens }

-- the opens of the reader of this number
abbrev pub waited_by : List ReaderView → ℕ → List WaitingFields
waited_by passes r = filter (λ (w : WaitingFields). w.reader == r) (map all_wait passes)

-- those whose shots had heard so many draws, as events
abbrev pub opened_at : ℕ → WaitingFields → List (Step × Reply)
opened_at k w = map (opened_of w.reader) (filter (has_heard k) w.opens)

-- no open's count of draws is below the one before it, and the first is so many or more
abbrev pub Climb : ℕ → List OpenEntry → Type 0
Climb k [] = Unit {0}
Climb k (o ∷ os) = (k ≤ o.draws) × Climb o.draws os

-- the opens of so many draws were told, and no other, and none of so many is left
pub record HasTold (k : ℕ) (old new : WaitingFields) (before after : List (Step × Reply)) : Type 0 where
  pub told : after ≡ before ++ opened_at k old
  pub climb : Climb (suc k) new.opens
  pub later : (j : ℕ) → k < j → opened_at j new ≡ opened_at j old

abbrev pub AllClimb : ℕ → List WaitingFields → Type 0
AllClimb k ws = Each (λ (w : WaitingFields). Climb k w.opens) ws

-- the same of all readers
pub record HaveTold (k : ℕ) (old new : List WaitingFields) (before after : List (Step × Reply)) : Type 0 where
  pub told : after ≡ before ++ flat_map (opened_at k) old
  pub climb : AllClimb (suc k) new
  pub later : (j : ℕ) → k < j → flat_map (opened_at j) new ≡ flat_map (opened_at j) old
