-- How far a session has got, by its seats.
use Rattle.std.specs.Prelude.{◌≡◌, ℕ, ◌+◌, ◌≤◌, List, ◌∷◌, ◌++◌, map, length, ◌<◌, slice_index_or, All, count_by}
use mathlib.Core.List.{IsPrefix}
use Rattle.path_resolver.specs.declared.shot.Shot.{Shot}
use Rattle.shot_board.specs.declared.viewer.Viewer.{Viewer}
use Rattle.shot_board.specs.Viewers.{known_of, told_of, most_of, viewer_board}
use Rattle.logbook.specs.Pages.{Book}
use Rattle.station.specs.declared.station.Station.{Station}
use Rattle.session_script.specs.declared.script.Parts.{Parts}
use Rattle.session_script.specs.declared.script.Stage.{Stage}
use Rattle.session_script.specs.Scripts.{script_of_parts}
use Rattle.session_script.specs.Ranges.{AreListed, IsInRanges}
use Rattle.carousel_world.specs.Events.{Step}
pub use Rattle.rehearsal.specs.Lines.{view_happening}
use Rattle.session.specs.Opened.{HasOpened}
use Rattle.session.specs.Seats.{HasCommitted, HasFed, IsDrawLine, draw_of, edits_of}
use Rattle.session.specs.declared.editor.EditorSeat.{EditorSeat}
use Rattle.session.specs.declared.feeder.FeederSeat.{FeederSeat}
use Rattle.session.specs.declared.reader.ReaderSeat.{ReaderSeat}
use Rattle.session.specs.Lines.{commits_by, draws_in, asked_from, is_draw_before}
use Rattle.session.specs.Inner.Plans.{opens_by, above, at_end, before_steps, below, during_steps, end_steps, steps}

-- ---- a session

-- what a session is made with: its script, and its board, which shows a shot before the first draw and one after each
pub record Setting : Type 0 where
  pub parts : Parts
  pub board : Book
  pub ranges : IsInRanges (script_of_parts parts)
  pub listed : AreListed (script_of_parts parts)

-- its events above `start` and below it
abbrev pub done_in : Setting → List (Stage × Step)
done_in setting = above (before_steps setting.parts) ++ below (during_steps setting.parts)

-- all its events
abbrev pub events_in : Setting → List (Stage × Step)
events_in setting = done_in setting ++ at_end (end_steps setting.parts)

abbrev pub draws_of : Setting → ℕ
draws_of setting = length (draws_in (steps (events_in setting)))

abbrev pub draws_before : Setting → ℕ
draws_before setting = count_by is_draw_before (events_in setting)

-- after these events this one comes next above `start`
abbrev pub IsNext : Setting → List Step → Step → Type 0
IsNext setting done e = (left : List Step) × (before_steps setting.parts ≡ done ++ e ∷ left)

-- ---- seats, after some of the events above `start`

-- so it is of each, by its place
abbrev pub EachAt : {A : Type 0} → (ℕ → A → Type 0) → List A → Type 0
EachAt P xs = (k : ℕ) (d : _) → k < length xs → P k (slice_index_or xs k d)

-- The editor of this place in the script made its commits among these events, and those below `start` lie before it
pub record EditorStands {X : _} {F : _} {g : _} (setting : Setting) (s : Station X F g) (done : List Step) (place : ℕ) (seat : EditorSeat) : Type 0 where
  pub number : seat.number ≡ slice_index_or setting.parts.editors.items place 0
  pub made : HasCommitted s place (commits_by seat.number done) seat.pass
  pub commits : map edits_of seat.commits.items ≡ commits_by seat.number (during_steps setting.parts)

abbrev pub EditorsStand : {X : _} {F : _} {g : _} → Setting → Station X F g → List Step → List EditorSeat → Type 0
EditorsStand setting s done seats = (length seats ≡ length setting.parts.editors.items) × EachAt (EditorStands setting s done) seats

-- The feeder made the draws among these events, after each of which a shot was shown, and those below `start` lie before it
pub record FeederStands {X : _} {F : _} {g : _} (setting : Setting) (s : Station X F g) (done : List Step) (shots : List Shot) (seat : FeederSeat) : Type 0 where
  pub fed : HasFed s (draws_in done) seat shots
  pub draws : map draw_of seat.draws.items ≡ draws_in (during_steps setting.parts)
  pub in_range : All IsDrawLine seat.draws.items

-- The reader of this place in the script, at the setting's board. It has room for all opens; those below `start` and those at the end lie before it
pub record IsReaderOf (setting : Setting) (place : ℕ) (seat : ReaderSeat) : Type 0 where
  pub number : seat.pass.reader ≡ slice_index_or setting.parts.readers.items place 0
  pub board_is : seat.pass.board ≡ setting.board
  pub most_is : seat.pass.most ≡ draws_of setting
  pub room : seat.pass.room ≡ length (opens_by seat.pass.reader (steps (events_in setting)))
  pub paths : seat.paths.items ≡ opens_by seat.pass.reader (during_steps setting.parts)
  pub finales : seat.finales.items ≡ opens_by seat.pass.reader (end_steps setting.parts)

-- it opened what it was asked for among these events, and was told of all shots
pub record ReaderStands (setting : Setting) (done : List Step) (shots : List Shot) (place : ℕ) (seat : ReaderSeat) : Type 0 where
  pub reader : IsReaderOf setting place seat
  pub few : length seat.pass.known ≤ seat.pass.most + 1
  pub opened : HasOpened (asked_from seat.pass.reader (draws_before setting) (draws_of setting) 0 (above done)) seat.pass
  pub told : IsPrefix shots seat.pass.told

abbrev pub ReadersStand : Setting → List Step → List Shot → List ReaderSeat → Type 0
ReadersStand setting done shots seats = (length seats ≡ length setting.parts.readers.items) × EachAt (ReaderStands setting done shots) seats

-- ---- what seats are made of

-- the setting's viewers, who know these shots and were told of no others
abbrev pub IsViewerOf : Setting → List Shot → Viewer Shot → Type 0
IsViewerOf setting shots v = (viewer_board v ≡ setting.board) × (most_of v ≡ draws_of setting) × (known_of v ≡ shots) × (told_of v ≡ shots)

-- no two of the numbers are the same
abbrev pub AreApart : List ℕ → Type 0
AreApart ns = (i j : ℕ) → i < length ns → j < length ns → slice_index_or ns i 0 ≡ slice_index_or ns j 0 → i ≡ j

abbrev pub numbers_of : List EditorSeat → List ℕ
numbers_of seats = map (λ (seat : EditorSeat). seat.number) seats

abbrev pub readers_of : List ReaderSeat → List ℕ
readers_of seats = map (λ (seat : ReaderSeat). seat.pass.reader) seats
