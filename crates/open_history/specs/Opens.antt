-- What a contract sees of a reader's pass.
use Rattle.std.specs.Prelude.{ℕ, ◌≡◌, ◌<◌, List, [], ◌∷◌, length, Some, slice_get, IsTrue}
use Rattle.logbook.specs.Pages.{Book}
use Rattle.shot_board.specs.declared.viewer.Viewer.{Viewer}
use Rattle.shot_board.specs.Shots.{EndsWith}
use Rattle.shot_board.specs.Viewers.{known_of, told_of, most_of, viewer_board}
use Rattle.path_tree.specs.Paths.{PathNames}
use Rattle.path_resolver.specs.declared.shot.Shot.{Shot}
use Rattle.path_resolver.specs.Resolving.{answer_of, is_shared}
use Rattle.path_resolver.specs.Shots.{held_of}
use Rattle.open_history.specs.declared.entry.OpenEntry.{OpenEntry}

pub record ReaderView : Type 0 where
  pub reader : ℕ
  pub room : ℕ  -- how many opens there may be
  pub board : Book
  pub most : ℕ  -- the greatest number that the board may show
  pub known : List Shot  -- the list that the pass knows, the shot at place k having the number k
  pub told : List Shot  -- the list that it was told of
  pub opens : List OpenEntry
  pub cached : ℕ  -- how many answers are kept

abbrev pub reader_view : ℕ → ℕ → Viewer Shot → List OpenEntry → ℕ → ReaderView
reader_view reader room v opens cached = record { reader = reader; room = room; board = viewer_board v; most = most_of v; known = known_of v; told = told_of v; opens = opens; cached = cached }

-- the open is that of its whole path on the shot that stands at its number in the list
abbrev pub Answered : List Shot → OpenEntry → Type 0
Answered known e =
    (shot : Shot) × (slice_get known e.shot ≡ Some shot) × (shot.number ≡ e.shot) × (e.draws ≡ shot.draws) × (e.label ≡ shot.label)
    × (e.answer ≡ answer_of (held_of shot) e.path)

abbrev pub AllAnswered : List Shot → List OpenEntry → Type 0
AllAnswered known [] = Unit {0}
AllAnswered known (e ∷ es) = Answered known e × AllAnswered known es

abbrev pub IsSameReader : ReaderView → ReaderView → Type 0
IsSameReader a b = (b.reader ≡ a.reader) × (b.room ≡ a.room) × (b.board ≡ a.board) × (b.most ≡ a.most)

-- the pass doesn't know all that it was told of
abbrev pub IsBehind : ReaderView → Type 0
IsBehind r = length r.known < length r.told

-- the answer to the path on the last shot of the list shares what the shot holds
abbrev pub SharesOnLast : List Shot → PathNames → Type 0
SharesOnLast known path = (shot : Shot) × EndsWith (λ s. s.number) known shot × IsTrue (is_shared (answer_of (held_of shot) path))
