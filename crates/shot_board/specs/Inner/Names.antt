-- Which board a seat belongs to.
use Rattle.std.specs.Prelude.{ℕ, ◌≡◌, true, false, List, []}
use mathlib.Core.Option.{some}
use lib.ListN.{get_elem?}
use Rattle.logbook.specs.Pages.{Book}
use Rattle.shot_board.specs.declared.shown.Shown.{Shown}
use Rattle.shot_board.specs.declared.seats.Name.{Name}

abbrev no_book : Book
no_book = record { number = 0; log_name = 0; cells_name = 0 }

module _ {S : Type 0} where
  abbrev pub nobody : Name S
  nobody = record { named = false; book = record { marker = record {}; book = no_book; names = []; log = [] }; most = 0 }

  abbrev pub name_of : Shown S → Name S
  name_of x = record { named = true; book = x.front.seen; most = x.most }

  -- the seat has no name, or the board's
  abbrev pub Fits : Shown S → Name S → Type 0
  Fits x v = v.named ≡ true → (v.book.book ≡ x.front.seen.book) × (v.most ≡ x.most)

  abbrev pub AllNamed : Shown S → List (Name S) → Type 0
  AllNamed x views = (seat : ℕ) (v : Name S) → get_elem? views seat ≡ some v → Fits x v

  -- what was read is of the board that the seat has the name of
  abbrev pub HasRead : Name S → Shown S → Shown S → Name S → Type 0
  HasRead v x y w = (w ≡ v) × Fits x v

  -- the seat has the name of what was published
  abbrev pub HasNamed : Name S → Shown S → Shown S → Name S → Type 0
  HasNamed v x y w = w ≡ name_of y
