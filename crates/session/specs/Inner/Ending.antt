-- What is left of a session once its threads are done, and what comes of it.
use Rattle.std.specs.Prelude.{◌≡◌, ℕ, ◌+◌, Bool, is_some, List, map, length, All, true, ◌++◌}
use Rattle.path_tree.specs.declared.tree.Edit.{Edit}
use Rattle.path_resolver.specs.declared.shot.Shot.{Shot}
use Rattle.station.specs.declared.station.Station.{Station}
use Rattle.station.specs.Passes.{carousel_of, pass_count, weights_of}
use Rattle.generation_catalogue.specs.View.{state}
use Rattle.carousel_world.specs.Events.{Step}
use Rattle.carousel_world.specs.World.{Drawing}
use Rattle.history_merge.specs.Merging.{fates_view}
use Rattle.session.specs.Chains.{DrawFields}
use Rattle.session.specs.Shown.{HasShown}
use Rattle.session.specs.Opened.{HasOpened}
use Rattle.session.specs.Seats.{HasCommitted, HasFed}
use Rattle.session.specs.declared.cast.Cast.{Cast}
use Rattle.session.specs.declared.editor.EditorSeat.{EditorSeat}
use Rattle.session.specs.declared.ending.Closed.{Closed}
use Rattle.session.specs.declared.feeder.FeederSeat.{FeederSeat}
use Rattle.session.specs.declared.reader.ReaderSeat.{ReaderSeat}
use Rattle.session.specs.Lines.{commits_by, draws_in, asked_from}
use Rattle.session.specs.Inner.Plans.{opens_by, end_steps, steps}
use Rattle.session.specs.Gathering.{IsGathered}
use Rattle.session.specs.Inner.Acting.{EachAt, Setting, done_in, draws_before, draws_of, events_in, numbers_of, readers_of}

-- ---- when the threads are done

-- memory cut no actor short
pub record IsWhole (cast : Cast) : Type 0 where
  pub editors : All (λ (seat : EditorSeat). seat.whole ≡ true) cast.editors.items
  pub feeder : cast.feeder.whole ≡ true
  pub readers : All (λ (seat : ReaderSeat). seat.whole ≡ true) cast.readers.items

-- a reader of the setting's board opened all that it was asked for so far, and has room for all opens, of which those at the end lie before it
pub record ReaderDone (setting : Setting) (seat : ReaderSeat) : Type 0 where
  pub board_is : seat.pass.board ≡ setting.board
  pub most_is : seat.pass.most ≡ draws_of setting
  pub opened : HasOpened (asked_from seat.pass.reader (draws_before setting) (draws_of setting) 0 (done_in setting)) seat.pass
  pub finales : seat.finales.items ≡ opens_by seat.pass.reader (end_steps setting.parts)
  pub room : seat.pass.room ≡ length (opens_by seat.pass.reader (steps (events_in setting)))

-- each editor made all its commits among these events
abbrev pub EditorsDone : {X : _} {F : _} {g : _} → Station X F g → List Step → List EditorSeat → Type 0
EditorsDone s events seats = EachAt (λ place seat. HasCommitted s place (commits_by seat.number events) seat.pass) seats

-- all that is above `start` and below it is done
pub record CastDone {X : _} {F : _} {g : _} (setting : Setting) (s : Station X F g) (shots : List Shot) (cast : Cast) : Type 0 where
  pub editors_are : numbers_of cast.editors.items ≡ setting.parts.editors.items
  pub committed : EditorsDone s (steps (done_in setting)) cast.editors.items
  pub fed : HasFed s (draws_in (steps (done_in setting))) cast.feeder shots
  pub readers_are : readers_of cast.readers.items ≡ setting.parts.readers.items
  pub read : All (ReaderDone setting) cast.readers.items

-- the same, with the editors' numbers, and whether the script settles
pub record AreDone {X : _} {F : _} {g : _} (setting : Setting) (settles : Bool) (s : Station X F g) (numbers : List ℕ) (shots : List Shot) (cast : Cast) : Type 0 where
  pub settled : settles ≡ is_some setting.parts.settle
  pub carousel : carousel_of s ≡ 1
  pub passes : pass_count s ≡ length cast.editors.items + 1
  pub numbers_are : numbers ≡ setting.parts.editors.items
  pub done : CastDone setting s shots cast

-- ---- what comes after them

-- this was gathered and shown of so many editors' commits and of the draws, of a carousel of this id and of these weights
pub record HasGathered {X : _} {F : _} {g : _} (id : ℕ) (weights : List ℕ) (commits : List (List (List Edit))) (lines : List DrawFields) (shots : List Shot)
    (e : Closed X F g) : Type 0 where
  pub carousel : (state e.catalogue).carousel ≡ id
  pub weighs : (state e.catalogue).weights ≡ weights
  pub drawings : List Drawing
  pub gathered : IsGathered commits lines (state e.catalogue) drawings
  pub shown : HasShown drawings e.downlink shots
  pub fates : map fates_view e.fates.items ≡ map (λ (line : DrawFields). line.fates) lines

-- what the editors and the feeder did is gathered
abbrev pub GathersAll : {X : _} {F : _} {g : _} {Y : _} {G : _} {h : _} → Station X F g → List EditorSeat → FeederSeat → Closed Y G h → Type 0
GathersAll s editors feeder e = (events : List Step) (draws : List DrawFields) (shots : List Shot) → EditorsDone s events editors → HasFed s draws feeder shots
    → HasGathered (carousel_of s) (weights_of s) (map (λ (n : ℕ). commits_by n events) (numbers_of editors)) draws shots e

-- and so are these draws, after all that was gathered and shown before
abbrev pub GathersOn : {X : _} {F : _} {g : _} → (old new : Closed X F g) → (before after : List Shot) → List DrawFields → Type 0
GathersOn old new before after lines = (id : ℕ) (weights : List ℕ) (commits : List (List (List Edit))) (draws : List DrawFields)
    → HasGathered id weights commits draws before old → HasGathered id weights commits (draws ++ lines) after new

-- all shots of the setting's session were shown
abbrev pub AreAll : Setting → List Shot → Type 0
AreAll setting shots = length shots ≡ draws_of setting + 1
