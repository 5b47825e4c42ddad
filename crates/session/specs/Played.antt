-- From what all actors did to the session.
use Rattle.std.specs.Prelude.{◌≡◌, ℕ, true, List, map}
use Rattle.ts_packet.specs.declared.Fate.{Fate}
use Rattle.path_resolver.specs.declared.shot.Shot.{Shot}
use Rattle.open_history.specs.Opens.{ReaderView, AllAnswered}
use Rattle.generation_catalogue.specs.History.{CatalogueState, with_draw}
use Rattle.generation_catalogue.specs.declared.entry.Entry.{Entry}
use Rattle.carousel_world.specs.World.{Drawing}
use Rattle.history_merge.specs.Merging.{Each, merge_of}
use Rattle.history_merge.specs.Merged.{AreParts}
use Rattle.session_script.specs.declared.script.Parts.{Parts}
use Rattle.session_script.specs.Scripts.{script_of_parts, Fields}
use Rattle.session_script.specs.Ranges.{AreListed, IsInRanges}
use Rattle.rehearsal.specs.Lines.{events_of}
use Rattle.session.specs.Chains.{DrawFields}
use Rattle.session.specs.Shown.{AreShots}
use Rattle.session.specs.Opened.{HasOpened}
use Rattle.session.specs.Lines.{commits_by, draws_in, asked_of, settles}
use Rattle.session.specs.Gathering.{IsGathered}
use Rattle.session.specs.Sessions.{IsSession}
use Rattle.cycle_planner.specs.declared.TheConstants.{MOST_DRAWN}

-- whose passes these are
abbrev pub whose : List ReaderView → List ℕ
whose readers = map (λ (v : ReaderView). v.reader) readers

-- the reader opened all that it was asked for, and knows all that was shown
pub record HasRead (script : Fields) (shots : List Shot) (v : ReaderView) : Type 0 where
  pub opened : HasOpened (asked_of v.reader script) v
  pub known : v.known ≡ shots
  pub answered : AllAnswered shots v.opens

-- the last two entries are the draws of `settle`
abbrev pub IsSettled : CatalogueState → Type 0
IsSettled c = (before : CatalogueState) × (c ≡ with_draw (with_draw before MOST_DRAWN) MOST_DRAWN)

-- the script was played: this is the catalogue at the end, and what was drawn, shown and opened
pub record IsPlayed (script : Fields) (c : CatalogueState) (drawings : List Drawing) (shots : List Shot) (readers : List ReaderView) : Type 0 where
  pub carousel : c.carousel ≡ 1
  pub gathered : IsGathered (map (λ (editor : ℕ). commits_by editor (events_of script)) script.editors) (draws_in (events_of script)) c drawings
  pub shown : AreShots drawings shots
  pub readers_are : whose readers ≡ script.readers
  pub read : Each (HasRead script shots) readers
  pub settled : settles script ≡ true → IsSettled c

abbrev pub fates_of : Fields → List (List Fate)
fates_of script = map (λ (d : DrawFields). d.fates) (draws_in (events_of script))

-- these parts fit together, and their merge is a session of the script
abbrev pub FitsAndTells : List ℕ → Fields → List ℕ → List Entry → List (List Fate) → List ReaderView → Type 0
FitsAndTells weights script editors entries fates readers =
    AreParts entries fates editors readers × IsSession weights script (merge_of editors readers fates entries)

abbrev pub PlayedIsASession : Type 0
PlayedIsASession = (parts : Parts) (c : CatalogueState) (drawings : List Drawing) (shots : List Shot) (readers : List ReaderView)
    → IsInRanges (script_of_parts parts) → AreListed (script_of_parts parts) → IsPlayed (script_of_parts parts) c drawings shots readers
    → FitsAndTells c.weights (script_of_parts parts) parts.editors.items c.entries (fates_of (script_of_parts parts)) readers
