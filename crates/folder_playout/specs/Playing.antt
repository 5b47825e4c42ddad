-- What is promised of a playout: what was read, what was written of it, and what was told.
use Rattle.std.specs.Prelude.{◌≡◌, ◌≤◌, ◌⊎◌, ℕ, ◌+◌, List, [], ◌∷◌, ◌++◌, length, Result, Ok, Err, false}
use Rattle.path_tree.specs.Trees.{Tree}
use Rattle.section_stream.specs.Cuts.{Bytes}
use Rattle.shell_streams.specs.Sending.{OutputState, HasPut, Puts}
use Rattle.shell_streams.specs.declared.output.OutputFault.{OutputFault}
use Rattle.dsi_dii.specs.declared.TheConstants.{LAST_GENERATION}
use Rattle.folder_playout.specs.OnAir.{OnAir, on_air, air_bytes, same_tree}
use Rattle.folder_playout.specs.Readings.{Reading, Found, reading_in}
use Rattle.folder_playout.specs.Notices.{Notice, all_told}
use Rattle.folder_playout.specs.Laws.{IsBroadcast}
use Rattle.folder_playout.specs.declared.reading.Unread.{Unread}
use Rattle.folder_playout.specs.declared.playing.AirFault.{AirFault}
use Rattle.folder_playout.specs.declared.playing.AirFault.TheVariants as faults

-- on which PID, of which carousel, and how often each module comes in a cycle
pub record Sent : Type 0 where
  pub pid : ℕ
  pub carousel : ℕ
  pub weights : List ℕ

-- what is on the air after a first tree and further readings, what is sent by then, and what is told
abbrev pub air_of : Sent → Tree → List Reading → OnAir
air_of s tree readings = on_air s.carousel s.weights tree readings

abbrev pub sent_bytes : Sent → Tree → List Reading → Bytes
sent_bytes s tree readings = air_bytes s.pid (air_of s tree readings)

abbrev pub notices_of : Sent → Tree → List Reading → List Notice
notices_of s tree readings = all_told s.carousel s.weights tree readings

-- a lawful broadcast of whole cycles, by these readings
abbrev pub IsLawful : Sent → Tree → List Reading → Type 0
IsLawful s tree readings = IsBroadcast s.carousel s.weights (air_of s tree readings)

-- The last generation is on the air after these readings, and then another tree than its own was read.
pub record IsFull (s : Sent) (Read : List Reading → Type 0) (tree : Tree) (readings : List Reading) : Type 0 where
  pub next : Tree
  pub read : Read (Found tree ∷ readings ++ Found next ∷ [])
  pub number : (air_of s tree readings).generation.number ≡ LAST_GENERATION
  pub other : same_tree next (air_of s tree readings).generation.tree ≡ false

-- a front of a list was told
pub record ToldFront (Told : List Notice → Type 0) (all : List Notice) : Type 0 where
  pub front : List Notice
  pub rest : List Notice
  pub told : Told front
  pub split : front ++ rest ≡ all

-- a tree was read before each of so many cycles, and all of them were put
pub record AirsAll (s : Sent) (cycles : ℕ) (Read : List Reading → Type 0) (Told : List Notice → Type 0) (old new : OutputState) : Type 0 where
  pub tree : Tree
  pub rest : List Reading
  pub read : Read (Found tree ∷ rest)
  pub many : length rest + 1 ≡ cycles
  pub lawful : IsLawful s tree rest
  pub told : Told (notices_of s tree rest)
  pub puts : HasPut old new (sent_bytes s tree rest)
  pub empty : new.pending ≡ []

-- A fault of the output, or want of memory, stopped it: a front was written of what these readings give, and a front was told.
pub record AirsPart (s : Sent) (cycles : ℕ) (Read : List Reading → Type 0) (Told : List Notice → Type 0) (fault : OutputFault) (old new : OutputState) : Type 0 where
  pub tree : Tree
  pub rest : List Reading
  pub read : Read (Found tree ∷ rest) ⊎ IsFull s Read tree rest
  pub few : length rest + 1 ≤ cycles
  pub lawful : IsLawful s tree rest
  pub told : ToldFront Told (notices_of s tree rest)
  pub puts : Puts {T = Unit {0}} (Err fault) old new (sent_bytes s tree rest)

-- the last generation is on the air, all of whose cycles so far were put, and before the next one another tree was read
pub record AirsSeason (s : Sent) (cycles : ℕ) (Read : List Reading → Type 0) (Told : List Notice → Type 0) (old new : OutputState) : Type 0 where
  pub tree : Tree
  pub rest : List Reading
  pub full : IsFull s Read tree rest
  pub few : length rest + 2 ≤ cycles
  pub lawful : IsLawful s tree rest
  pub told : Told (notices_of s tree rest)
  pub puts : HasPut old new (sent_bytes s tree rest)
  pub empty : new.pending ≡ []

-- the first reading found no tree, and nothing was put or told
pub record AirsNothing (Read : List Reading → Type 0) (Told : List Notice → Type 0) (fault : Unread) (old new : OutputState) : Type 0 where
  pub read : Read (reading_in (Err fault))
  pub told : Told []
  pub same : new ≡ old

abbrev pub Airs : Sent → ℕ → (List Reading → Type 0) → (List Notice → Type 0) → Result (Unit {0}) AirFault → OutputState → OutputState → Type 0
Airs s cycles Read Told (Ok _) old new = AirsAll s cycles Read Told old new
Airs s cycles Read Told (Err (faults.Unread fault)) old new = AirsNothing Read Told fault old new
Airs s cycles Read Told (Err faults.SeasonFull) old new = AirsSeason s cycles Read Told old new
Airs s cycles Read Told (Err (faults.Output fault)) old new = AirsPart s cycles Read Told fault old new
