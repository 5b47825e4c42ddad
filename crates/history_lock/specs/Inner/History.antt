-- The rule of the lock's table, and what each step on its word tells. All of it is this project's own.
-- Word 0 is the turn word, 0 while the lock is free and 1 while it is held. Slot 0 has the value while the lock is free, and is out with the holder's seat while it is held.
use Rattle.std.specs.Prelude.{◌≡◌, ◌≢◌, ℕ, ◌+◌, ◌-◌, ◌<◌, Bool, true, false, List, [], ◌∷◌, ◌++◌, length, slice_index, Option, Some}
use mathlib.Core.Option.{some}
use lib.ListN.{get_elem?}
use Rattle.atomic_table.specs.Table.{State, Me, Step}
use Rattle.history_lock.specs.declared.rule.View.{View}
use Rattle.history_lock.specs.History.{Begins, times, new_places, once_within, total, Each}

module _ {E : Type 0} where
  abbrev pub seat_of : ℕ → Bool → List E → List (List E) → List ℕ → View E
  seat_of parts holds seen heard own = record { parts = parts; holds = holds; seen = seen; heard = heard; own = own }

  -- the view of the first seat
  abbrev pub newcomer : ℕ → List E → View E
  newcomer parts seen = seat_of parts false seen [] []

  -- the view of a seat that was joined to another
  abbrev pub spent_view : View E
  spent_view = seat_of 0 false [] [] []

  -- one part is split off, for a seat that has seen as much and has no places of its own
  abbrev pub kept_part : View E → View E
  kept_part v = seat_of (v.parts - 1) v.holds v.seen v.heard v.own

  abbrev pub given_part : View E → View E
  given_part v = seat_of 1 false v.seen [] []

  -- both have one seat's parts and places, and it keeps the list that the other had seen beside its own
  abbrev pub join_views : View E → View E → View E
  join_views v w = seat_of (v.parts + w.parts) v.holds v.seen (w.seen ∷ w.heard ++ v.heard) (v.own ++ w.own)

  -- the view while the lock is held: the list at the take was seen
  abbrev pub while_held : View E → List E → View E
  while_held v list = seat_of v.parts true list v.heard v.own

  -- the view after the release: the list was seen, and its new places are the seat's own
  abbrev pub after_release : View E → List E → View E
  after_release v list = seat_of v.parts false list v.heard (v.own ++ new_places v.seen list)

  -- What the rule says of one seat, of the word, the list and the holder: where it holds, it is the holder, the word is taken, and it has seen just this list. All that it has seen and heard begins the list.
  -- A spent seat has no place and doesn't hold.
  abbrev pub Fits : ℕ → List E → ℕ → ℕ → View E → Type 0
  Fits word now holder seat v =
      (v.holds ≡ true → (seat ≡ holder) × (word ≡ 1) × (v.seen ≡ now))
      × Begins v.seen now × Each (λ xs. Begins xs now) v.heard
      × (v.parts ≡ 0 → (v.own ≡ []) × (v.holds ≡ false))

module _ {V E : Type 0} where
  -- Where the word is 0 the value is at home, and stands for the list `now`. Where it is 1, one seat holds it, and `now` is the list that it got. The seats' parts add up to all, and each place of `now`
  -- after the opening list is an own place of one seat.
  pub record Chronicle (list : V → List E) (seats : ℕ) (opening : List E) (s : State (Option V) (View E)) : Type 0 where
    pub now : List E
    pub holder : ℕ
    pub wide : length s.words ≡ 1
    pub turn : slice_index s.words 0 < 2
    pub home : slice_index s.words 0 ≡ 0 → (v : V) × (get_elem? s.homes 0 ≡ some (some (Some v))) × (list v ≡ now)
    pub held : slice_index s.words 0 ≡ 1 → (v : View E) × (get_elem? s.views holder ≡ some v) × (v.holds ≡ true)
    pub each_seat : (seat : ℕ) (v : View E) → get_elem? s.views seat ≡ some v → Fits (slice_index s.words 0) now holder seat v
    pub begins : Begins opening now
    pub shared : total (λ (v : View E). v.parts) s.views ≡ seats
    pub owned : (p : ℕ) → total (λ (v : View E). times p v.own) s.views ≡ once_within (length opening) (length now) p

  -- a take, where the word was found 0: the value is out with the seat, which has seen its list
  abbrev pub HasTaken : (V → List E) → Step (Option V) → Me (Option V) (View E) → ℕ → Me (Option V) (View E) → Type 0
  HasTaken list st m found m' =
      (found ≡ 0 → (v : V) × (m'.1 ≡ (0, Some v) ∷ m.1) × (m'.0 ≡ while_held m.0 (list v)) × Begins m.0.seen (list v))
      × (found ≢ 0 → m' ≡ m)

  -- a release of the value v that the seat has in the slot
  abbrev pub HasFreed : (V → List E) → Step (Option V) → Me (Option V) (View E) → ℕ → Me (Option V) (View E) → Type 0
  HasFreed list st m found m' = (v : V) → m.1 ≡ (0, Some v) ∷ [] → (m'.1 ≡ []) × (m'.0 ≡ after_release m.0 (list v))
