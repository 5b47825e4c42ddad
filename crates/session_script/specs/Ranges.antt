-- What holds of every script that a text gives.
use Rattle.std.specs.Prelude.{ℕ, ◌≤◌, ◌<◌, nat_eq, List, length, All, Contains}
use Rattle.std.specs.List.{IsDistinct}
use Rattle.session_script.specs.Scripts.{Act, Put, Fill, Remove, MakeFolder, RemoveFolder, Commit, Draw, Open, Settle, LineFields, Fields}
use Rattle.cycle_planner.specs.declared.TheConstants.{MOST_DRAWN}
use Rattle.session_script.specs.declared.words.TheConstants.{MOST_FILLED, MOST_ACTORS, MOST_FATES}

pub record IsActor (n : ℕ) : Type 0 where
  pub at_least : 1 ≤ n
  pub at_most : n ≤ MOST_ACTORS

abbrev pub IsInRange : Act → Type 0
IsInRange (Put editor path content) = IsActor editor
IsInRange (Fill editor path size from) = IsActor editor × (size ≤ MOST_FILLED) × (from < 256)
IsInRange (Remove editor path) = IsActor editor
IsInRange (MakeFolder editor path) = IsActor editor
IsInRange (RemoveFolder editor path) = IsActor editor
IsInRange (Commit editor) = IsActor editor
IsInRange (Draw asked fates) = (1 ≤ asked) × (asked ≤ MOST_DRAWN) × (length fates ≤ MOST_FATES)
IsInRange (Open reader path) = IsActor reader
IsInRange Settle = Unit {0}

-- numbers of editors, or of readers, each once
pub record AreActors (numbers : List ℕ) : Type 0 where
  pub each : All IsActor numbers
  pub once : IsDistinct nat_eq numbers
  pub most : length numbers ≤ MOST_ACTORS

pub record IsInRanges (script : Fields) : Type 0 where
  pub editors : AreActors script.editors
  pub readers : AreActors script.readers
  pub lines : All (λ line. IsInRange line.act) script.lines

-- who a line is of stands among these
abbrev pub IsMentioned : List ℕ → List ℕ → Act → Type 0
IsMentioned editors readers (Put editor path content) = Contains editors editor
IsMentioned editors readers (Fill editor path size from) = Contains editors editor
IsMentioned editors readers (Remove editor path) = Contains editors editor
IsMentioned editors readers (MakeFolder editor path) = Contains editors editor
IsMentioned editors readers (RemoveFolder editor path) = Contains editors editor
IsMentioned editors readers (Commit editor) = Contains editors editor
IsMentioned editors readers (Draw asked fates) = Unit {0}
IsMentioned editors readers (Open reader path) = Contains readers reader
IsMentioned editors readers Settle = Unit {0}

-- a script lists each editor and each reader that a line names
abbrev pub AreListed : Fields → Type 0
AreListed script = All (λ (l : LineFields). IsMentioned script.editors script.readers l.act) script.lines
