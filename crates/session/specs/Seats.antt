-- What actors did, by their seats.
use Rattle.std.specs.Prelude.{◌≡◌, ℕ, true, List, ◌++◌, map, length, ◌≤◌, ◌+◌, ◌<◌, slice_index_or}
use mathlib.Core.List.{IsPrefix}
use Rattle.std.specs.declared.vec.Vec.{Vec}
use Rattle.std.specs.declared.alloc.Global.{Global}
use Rattle.path_tree.specs.Paths.{PathNames}
use Rattle.path_tree.specs.declared.tree.Edit.{Edit}
use Rattle.path_resolver.specs.declared.shot.Shot.{Shot}
use Rattle.history_lock.specs.Passes.{number_of}
use Rattle.history_lock.specs.declared.pass.Pass.{Pass}
use Rattle.station.specs.declared.kept.Kept.{Kept}
use Rattle.station.specs.declared.kept.KeptItem.{KeptItem}
use Rattle.station.specs.declared.station.Station.{Station}
use Rattle.station.specs.Passes.{IsStationPass, carousel_of, weights_of}
use Rattle.carousel_world.specs.World.{Drawing}
use Rattle.open_history.specs.Opens.{IsSameReader}
use Rattle.session.specs.declared.editor.CommitLine.{CommitLine}
use Rattle.session.specs.declared.editor.EditorSeat.{EditorSeat}
use Rattle.session.specs.declared.feeder.DrawLine.{DrawLine}
use Rattle.session.specs.declared.feeder.FeederSeat.{FeederSeat}
use Rattle.session.specs.declared.reader.ReaderSeat.{ReaderSeat}
use Rattle.session.specs.Chains.{Commits, Draws, DrawFields, nothing_seen, seen_in}
use Rattle.session.specs.Shown.{HasShown}
use Rattle.session.specs.Opened.{Asked, HasOpened}
use Rattle.cycle_planner.specs.declared.TheConstants.{MOST_DRAWN}

-- so it is of each actor, by his seat before and after
abbrev pub EachDid : {A : Type 0} → (A → A → Type 0) → List A → List A → Type 0
EachDid Did old new =
    (i : ℕ) (d : _) → i < length old → Did (slice_index_or old i d) (slice_index_or new i d)

-- ---- editors

abbrev pub edits_of : CommitLine → List Edit
edits_of line = line.edits.items

-- the editor of this place made these commits, in order, and no others
pub record HasCommitted {X : _} {F : _} {g : _} (s : Station X F g) (place : ℕ) (lines : List (List Edit)) (p : Pass Kept KeptItem) : Type 0 where
  pub pass : IsStationPass s p
  pub number : number_of p ≡ place
  pub commits : Commits (carousel_of s) (weights_of s) place nothing_seen lines (seen_in p)

-- if it is whole, it made all the commits that lay before it, after those that it had made
pub record DidEdit {X : _} {F : _} {g : _} (s : Station X F g) (before after : EditorSeat) : Type 0 where
  pub pass : IsStationPass s after.pass
  pub editor : after.number ≡ before.number
  pub whole : after.whole ≡ true → (place : ℕ) (lines : List (List Edit)) → HasCommitted s place lines before.pass
      → HasCommitted s place (lines ++ map edits_of before.commits.items) after.pass

-- ---- the feeder

abbrev pub draw_of : DrawLine → DrawFields
draw_of line = record { asked = line.asked; fates = line.fates.items }

-- the feeder made these draws, in order, and no others; each was carried, and a shot was shown after it
pub record HasFed {X : _} {F : _} {g : _} (s : Station X F g) (lines : List DrawFields) (seat : FeederSeat) (shots : List Shot) : Type 0 where
  pub pass : IsStationPass s seat.pass
  pub drawings : List Drawing
  pub draws : Draws (carousel_of s) (weights_of s) nothing_seen lines drawings (seen_in seat.pass)
  pub shown : HasShown drawings seat.downlink shots
  pub fates : map (λ (fates : Vec _ Global). fates.items) seat.fates.items ≡ map (λ (line : DrawFields). line.fates) lines

-- if it is whole, it made all the draws that lay before it, after those that it had made
pub record DidFeed {X : _} {F : _} {g : _} (s : Station X F g) (before after : FeederSeat) (shots shots_after : List Shot) : Type 0 where
  pub pass : IsStationPass s after.pass
  pub whole : after.whole ≡ true → (lines : List DrawFields) → HasFed s lines before shots
      → HasFed s (lines ++ map draw_of before.draws.items) after shots_after
  pub count : after.whole ≡ true → length shots_after ≡ length shots + length before.draws.items

-- ---- readers

-- a path asked for when so many shots were told of
abbrev pub asked_at : ℕ → PathNames → Asked
asked_at least path = record { path = path; least = least }

-- if it is whole, it opened all the paths that lay before it, after those that it had opened. `least` is the number of a shot that it knew or was told of
pub record DidRead (before after : ReaderSeat) : Type 0 where
  pub same : IsSameReader before.pass after.pass
  pub told : after.pass.told ≡ before.pass.told
  pub known : IsPrefix before.pass.known after.pass.known
  pub most : length before.pass.known ≤ before.pass.most + 1 → length after.pass.known ≤ after.pass.most + 1
  pub whole : after.whole ≡ true → (least : ℕ) (asked : List Asked) → least + 1 ≤ length before.pass.told → HasOpened asked before.pass
      → HasOpened (asked ++ map (asked_at least) before.paths.items) after.pass
  pub opens : after.whole ≡ true → length after.pass.opens ≡ length before.pass.opens + length before.paths.items
  pub finales : after.finales ≡ before.finales

-- ---- what is asked of seats before their threads begin

abbrev pub IsEditorSeat : {X : _} {F : _} {g : _} → Station X F g → EditorSeat → Type 0
IsEditorSeat s seat = IsStationPass s seat.pass

abbrev pub IsDrawLine : DrawLine → Type 0
IsDrawLine line = (1 ≤ line.asked) × (line.asked ≤ MOST_DRAWN)

-- there is room for all opens
abbrev pub IsReaderSeat : ReaderSeat → Type 0
IsReaderSeat seat = length seat.pass.opens + length seat.paths.items ≤ seat.pass.room
