-- What a viewer is while the board is opened.
use Rattle.std.specs.Prelude.{◌≡◌, ℕ}
use Rattle.shot_board.specs.declared.front.Front.{Front}
use Rattle.shot_board.specs.declared.viewer.Viewer.{Viewer}
use Rattle.shot_board.specs.Fronts.{shots_in, front_board}
use Rattle.shot_board.specs.Viewers.{known_of, told_of, viewer_board, most_of}

-- the viewer knows the front's list, of the front's board, and was told of no other
abbrev pub IsSeated : {S : Type 0} → Front S → ℕ → Viewer S → Type 0
IsSeated f most v = (viewer_board v ≡ front_board f) × (most_of v ≡ most) × (known_of v ≡ shots_in f) × (told_of v ≡ shots_in f)
