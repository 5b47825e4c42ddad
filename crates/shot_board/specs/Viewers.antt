-- What a clause says of a viewer.
use Rattle.std.specs.Prelude.{ℕ, List}
use Rattle.logbook.specs.Pages.{Book}
use Rattle.shot_board.specs.declared.viewer.Viewer.{Viewer}

module _ {S : Type 0} where
  -- the list that the viewer knows
  abbrev pub known_of : Viewer S → List S
  known_of v = v.shown.front.seen.log

  -- the list that it was told of
  abbrev pub told_of : Viewer S → List S
  told_of v = v.told.seen.log

  -- the board that it looks at
  abbrev pub viewer_board : Viewer S → Book
  viewer_board v = v.shown.front.seen.book

  -- the greatest number that the board may show
  abbrev pub most_of : Viewer S → ℕ
  most_of v = v.shown.most
