-- The rule of the book that keeps the list of what was shown. All of it is this project's own.
use Rattle.std.specs.Prelude.{ℕ, ◌≡◌, ◌==◌, true, List, [], ◌∷◌, ◌++◌, length, MatchBool}
use Rattle.logbook.specs.Pages.{Cell, Step, View, Book, Named}
use Rattle.shot_board.specs.Shots.{AreNumbered}

module _ {S : Type 0} where
  -- The first word is the length of the list. A book has two words, of which this one leaves the second at 0.
  pub record IsKept (number : S → ℕ) (cells : List Cell) (log : List S) : Type 0 where
    pub words : cells ≡ (length log, true) ∷ (0, true) ∷ []
    pub numbers : AreNumbered number log

  -- the value was added to all that had been seen; or the list was longer, and was seen
  abbrev pub Adds : Step S → View S ℕ → ℕ → View S ℕ → Type 0
  Adds s before found after = MatchBool (found == s.old) (after.0 ≡ before.0 ++ s.ask ∷ []) (length after.0 ≡ found)

abbrev pub head_of : Book → Named
head_of b = record { tracked = true; key = 0; book = b }
