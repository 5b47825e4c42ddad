-- What a clause says of a shower, and of a new board.
use Rattle.std.specs.Prelude.{◌≡◌, ◌≤◌, ◌+◌, ℕ, List, length}
use Rattle.std.specs.Option.{ForSome}
use Rattle.logbook.specs.Pages.{Book}
use Rattle.left_right.specs.declared.Absorb.{Ghosts}
use Rattle.shot_board.specs.declared.shown.Shown.{Shown}
use Rattle.shot_board.specs.declared.shower.Shower.{Shower}
use Rattle.shot_board.specs.declared.viewer.Viewer.{Viewer}
use Rattle.shot_board.specs.Viewers.{known_of, told_of, viewer_board, most_of}

-- A shower's type also names how its board takes in what is shown
module _ {S X : Type 0} {takes : Ghosts (Shown S) (Shown S) X} where
  -- the list of all that was shown
  abbrev pub shown_by : Shower S X takes → List S
  shown_by s = s.front.seen.log

  abbrev pub shower_board : Shower S X takes → Book
  shower_board s = s.front.seen.book

  -- the greatest number that it may show
  abbrev pub most_by : Shower S X takes → ℕ
  most_by s = s.most

  -- what readers find on the board is the end of the shower's list
  abbrev pub IsOnTheBoard : Shower S X takes → Type 0
  IsOnTheBoard s = ForSome s.writer (λ w. w.desk.shown.value.front.seen.log ≡ shown_by s)

  -- the same board, with the same greatest number
  abbrev pub IsSameBoard : Shower S X takes → Shower S X takes → Type 0
  IsSameBoard s t = (shower_board t ≡ shower_board s) × (most_by t ≡ most_by s)

  -- nothing more was shown
  abbrev pub ShowsNothing : Shower S X takes → Shower S X takes → Type 0
  ShowsNothing s t = (shown_by t ≡ shown_by s) × IsSameBoard s t

  -- it may show so many shots more
  abbrev pub HasRoomFor : Shower S X takes → ℕ → Type 0
  HasRoomFor s n = length (shown_by s) + n ≤ most_by s + 1

  -- a viewer of the shower's board that knows the shower's list, and was told of no other
  abbrev pub IsNewViewer : Shower S X takes → Viewer S → Type 0
  IsNewViewer s v = (viewer_board v ≡ shower_board s) × (most_of v ≡ most_by s) × (known_of v ≡ shown_by s) × (told_of v ≡ shown_by s)
