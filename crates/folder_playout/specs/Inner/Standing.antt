-- A playout at work: what it stands for, and how far it is.
use Rattle.std.specs.Prelude.{◌≡◌, ◌≤◌, ℕ, ◌+◌, ◌++◌, false, List, [], ◌∷◌, length, Option, Some, None, Result, Ok, Err}
use Rattle.std.specs.List.{All, concat, fold}
use Rattle.path_tree.specs.Trees.{Tree}
use Rattle.generation.specs.Lawful.{IsPublishable}
use Rattle.generation.specs.Layouts.{GenerationState}
use Rattle.section_stream.specs.Cuts.{Bytes}
use Rattle.section_stream.specs.Packing.{MuxState, idle, packets_of_all, past}
use Rattle.section_stream.specs.Groups.{packets_of_groups, past_group}
use Rattle.shell_streams.specs.Sending.{OutputState, HasPut}
use Rattle.shell_streams.specs.declared.output.OutputFault.{OutputFault}
use Rattle.shell_streams.specs.declared.output.OutputFault.TheVariants as outputs
use Rattle.dsi_dii.specs.declared.TheConstants.{LAST_GENERATION}
use Rattle.folder_playout.specs.OnAir.{OnAir, same_tree, taken}
use Rattle.folder_playout.specs.Readings.{Reading, Found, reading_in}
use Rattle.folder_playout.specs.Notices.{Notice, kept_notices, told_of}
use Rattle.folder_playout.specs.Playing.{Sent, Airs, air_of, notices_of}
use Rattle.folder_playout.specs.Laws.{CanBeSent}
use Rattle.folder_playout.specs.declared.reading.Unread.{Unread}
use Rattle.folder_playout.specs.declared.reading.Unread.TheVariants as unread
use Rattle.folder_playout.specs.declared.playing.AirFault.{AirFault}
use Rattle.folder_playout.specs.declared.playout.Playout.{Playout}

-- before the sections of the group that is under way
abbrev pub before_group : ℕ → OnAir → MuxState
before_group pid s = fold past_group (idle pid 0) s.ended

-- the generation on the air is its own, and all sections so far went through its packer
pub record StandsFor (p : Playout) (pid : ℕ) (s : OnAir) : Type 0 where
  pub generation : p.generation ≡ s.generation
  pub mux : p.sender.mux ≡ fold past (before_group pid s) s.running

-- the packets that these sections have given so far: those of the groups that have ended, and of the one that goes on all that can't change
abbrev pub given_bytes : ℕ → OnAir → Bytes
given_bytes pid s = concat (packets_of_groups (idle pid 0) s.ended) ++ concat (packets_of_all (before_group pid s) s.running)

-- what is told of a reading that makes no generation
abbrev pub told_next : (number cycle : ℕ) → Result Tree Unread → List Notice
told_next number cycle (Ok tree) = []
told_next number cycle (Err cause) = kept_notices number cycle cause

-- Another tree was read than that of the generation on the air; or the reading leaves this one there, and that is all that is told of it; or there was no
-- memory.
abbrev pub IsNext : GenerationState → (cycle : ℕ) → Result Tree Unread → Result (Option Tree) OutputFault → Type 0
IsNext g cycle read (Ok (Some tree)) = (read ≡ Ok tree) × (same_tree tree g.tree ≡ false)
IsNext g cycle read (Ok None) = (reading : Reading) × (reading_in read ≡ reading ∷ [])
    × ((s : OnAir) → s.generation ≡ g → (taken s reading ≡ s) × (told_of s cycle reading ≡ told_next g.number cycle read))
IsNext g cycle read (Err fault) = (read ≡ Err unread.NoMemory) × (fault ≡ outputs.NoMemory)

-- So many cycles are sent, each after a reading.
pub record IsPlaying (sent : Sent) (Read : List Reading → Type 0) (Told : List Notice → Type 0) (done : ℕ) (start now : OutputState) (p : Playout) : Type 0 where
  pub tree : Tree
  pub rest : List Reading
  pub read : Read (Found tree ∷ rest)
  pub many : length rest + 1 ≡ done
  pub first : IsPublishable tree
  pub others : All CanBeSent rest
  pub few : length (air_of sent tree rest).trees ≤ LAST_GENERATION
  pub told : Told (notices_of sent tree rest)
  pub stands : StandsFor p sent.pid (air_of sent tree rest)
  pub puts : HasPut start now (given_bytes sent.pid (air_of sent tree rest))
  pub empty : now.pending ≡ []

-- A reading more was taken, of whose generation no cycle more is sent yet.
pub record IsTurning (sent : Sent) (Read : List Reading → Type 0) (Told : List Notice → Type 0) (done : ℕ) (start now : OutputState) (p : Playout) : Type 0 where
  pub tree : Tree
  pub rest : List Reading
  pub reading : Reading
  pub read : Read (Found tree ∷ rest ++ reading ∷ [])
  pub many : length rest + 1 ≡ done
  pub first : IsPublishable tree
  pub others : All CanBeSent (rest ++ reading ∷ [])
  pub few : length (taken (air_of sent tree rest) reading).trees ≤ LAST_GENERATION
  pub told : Told (notices_of sent tree (rest ++ reading ∷ []))
  pub stands : StandsFor p sent.pid (taken (air_of sent tree rest) reading)
  pub puts : HasPut start now (given_bytes sent.pid (taken (air_of sent tree rest) reading))

-- ---- what the steps of a playout leave, or how it ends by them

abbrev pub Begins : Sent → (cycles : ℕ) → (List Reading → Type 0) → (List Notice → Type 0) → Result Playout AirFault → (start now : OutputState) → Type 0
Begins sent cycles Read Told (Ok p) start now = IsPlaying sent Read Told 1 start now p
Begins sent cycles Read Told (Err fault) start now = Airs sent cycles Read Told (Err fault) start now

abbrev pub Takes : Sent → (done cycles : ℕ) → (List Reading → Type 0) → (List Notice → Type 0) → Result (Unit {0}) AirFault → (start now : OutputState) → Playout → Type 0
Takes sent done cycles Read Told (Ok _) start now p = IsTurning sent Read Told done start now p
Takes sent done cycles Read Told (Err fault) start now p = Airs sent cycles Read Told (Err fault) start now

abbrev pub Turns : Sent → (done cycles : ℕ) → (List Reading → Type 0) → (List Notice → Type 0) → Result (Unit {0}) AirFault → (start now : OutputState) → Playout → Type 0
Turns sent done cycles Read Told (Ok _) start now p = IsPlaying sent Read Told (done + 1) start now p
Turns sent done cycles Read Told (Err fault) start now p = Airs sent cycles Read Told (Err fault) start now
