-- What `air PID FOLDER CAROUSEL CYCLES` promises: whole cycles of what a folder holds are written as packets of one PID. The folder is read before
-- each of them, and another tree than that on the air is the carousel's next generation.
use Rattle.std.specs.Prelude.{◌≡◌, ◌≤◌, ◌⊎◌, ℕ, ◌+◌, List, [], ◌∷◌, length, Option, Some}
use Rattle.path_tree.specs.Trees.{Tree}
use Rattle.dsi_dii.specs.declared.TheConstants.{LAST_GENERATION}
use Rattle.generation_catalogue.specs.declared.entry.Refusal.TheVariants as refusals
use Rattle.folder_store.specs.Folders.{FolderTree}
use Rattle.folder_store.specs.declared.reading.TreeFault.{TreeFault}
use Rattle.folder_store.specs.declared.reading.TreeFault.TheVariants as trees
use Rattle.carousel_world.specs.Publishing.{published_bytes}
use Rattle.shell_streams.specs.Cuts.{Bytes}
use Rattle.folder_playout.specs.Readings.{AreRead, Reading, Found, Refused, Failed as Unreadable}
use Rattle.folder_playout.specs.Notices.{Notice}
use Rattle.folder_playout.specs.Playing.{Sent, IsFull, IsLawful, ToldFront, notices_of, sent_bytes}
use Rattle.receiver_commands.specs.Over.{Over, IsUntouched, WritesAll, WritesPrefix, EndsWriting}
use Rattle.shell_commands.specs.Publishing.{tree_of_folder}
use Rattle.receiver_commands.specs.declared.status.Status.{Status}
use Rattle.receiver_commands.specs.declared.status.Status.TheVariants as status

-- these were read of the folder, one after another, and nothing else was
abbrev pub WereRead : Bytes → Over FolderTree → List Reading → Type 0
WereRead folder folders readings = AreRead folder folders.before folders.after folders.faults folders.faults_after readings

-- The tree is that of the known folder, and what is sent is what `publish` sends of it in as many cycles.
pub record IsOfKnown (sent : Sent) (folder : Bytes) (tree : Tree) (rest : List Reading) (t : FolderTree) : Type 0 where
  pub tree_is : tree_of_folder folder sent.carousel t ≡ Some tree
  pub bytes : sent_bytes sent tree rest ≡ published_bytes sent.pid sent.carousel sent.weights (length rest + 1) tree

-- it is so where the folder is known
abbrev pub IsPublishedIfKnown : Sent → Bytes → Over FolderTree → Tree → List Reading → Type 0
IsPublishedIfKnown sent folder folders tree rest = (t : FolderTree) → folders.before ≡ Some t → IsOfKnown sent folder tree rest t

-- the folder was read before each of so many cycles, and all of them were written
pub record AiredAll (sent : Sent) (folder : Bytes) (cycles : ℕ) (Told : List Notice → Type 0) (sink : Over Bytes) (folders : Over FolderTree) : Type 0 where
  pub tree : Tree
  pub rest : List Reading
  pub read : WereRead folder folders (Found tree ∷ rest)
  pub many : length rest + 1 ≡ cycles
  pub lawful : IsLawful sent tree rest
  pub known : IsPublishedIfKnown sent folder folders tree rest
  pub told : Told (notices_of sent tree rest)
  pub writes : WritesAll sink (sent_bytes sent tree rest)

-- a prefix of so many cycles at most was written, and a front of the notices was told
pub record AiredPart (sent : Sent) (folder : Bytes) (cycles : ℕ) (Told : List Notice → Type 0) (sink : Over Bytes) (folders : Over FolderTree) : Type 0 where
  pub tree : Tree
  pub rest : List Reading
  pub read : WereRead folder folders (Found tree ∷ rest) ⊎ IsFull sent (WereRead folder folders) tree rest
  pub few : length rest + 1 ≤ cycles
  pub lawful : IsLawful sent tree rest
  pub known : IsPublishedIfKnown sent folder folders tree rest
  pub told : ToldFront Told (notices_of sent tree rest)
  pub writes : WritesPrefix sink (sent_bytes sent tree rest)

-- The last generation that a carousel has is on the air, all of its cycles so far were written, and then another tree was read.
pub record AiredSeason (sent : Sent) (folder : Bytes) (cycles : ℕ) (Told : List Notice → Type 0) (sink : Over Bytes) (folders : Over FolderTree) : Type 0 where
  pub tree : Tree
  pub rest : List Reading
  pub full : IsFull sent (WereRead folder folders) tree rest
  pub few : length rest + 2 ≤ cycles
  pub lawful : IsLawful sent tree rest
  pub told : Told (notices_of sent tree rest)
  pub writes : WritesAll sink (sent_bytes sent tree rest)

-- this was all that was read, and nothing was told or written
pub record AiredNothing (folder : Bytes) (Told : List Notice → Type 0) (readings : List Reading) (sink : Over Bytes) (folders : Over FolderTree) : Type 0 where
  pub read : WereRead folder folders readings
  pub told : Told []
  pub unwritten : IsUntouched sink

-- there are no more generations
abbrev pub season_full : TreeFault
season_full = trees.Commit (refusals.SeasonFull LAST_GENERATION)

abbrev pub AirsAll : Sent → (folder : Bytes) → (cycles : ℕ) → (List Notice → Type 0) → Over Bytes
    → Over FolderTree → Status → Type 0
AirsAll sent folder cycles Told sink folders status.Done =
    AiredAll sent folder cycles Told sink folders
AirsAll sent folder cycles Told sink folders status.FolderFault =
    (path : Bytes) × AiredNothing folder Told (Unreadable path ∷ []) sink folders
AirsAll sent folder cycles Told sink folders (status.TreeRefused fault) =
    ((path : Option Bytes) × AiredNothing folder Told (Refused fault path ∷ []) sink folders)
    ⊎ ((fault ≡ season_full) × AiredSeason sent folder cycles Told sink folders)
AirsAll sent folder cycles Told sink folders _ = ⊥

abbrev pub EndsAir : Sent → (folder : Bytes) → (cycles : ℕ) → (List Notice → Type 0) → Over Bytes
    → Over FolderTree → Status → Type 0
EndsAir sent folder cycles Told sink folders =
    EndsWriting (AirsAll sent folder cycles Told sink folders)
    (AiredPart sent folder cycles Told sink folders)
    (AiredNothing folder Told [] sink folders ⊎ AiredPart sent folder cycles Told sink folders) sink

-- `Told` is what holds of the notices that were given.
pub record StaysOnAir (pid : ℕ) (folder : Bytes) (carousel : ℕ) (weights : List ℕ) (cycles : ℕ) (s : Status) (sink : Over Bytes) (folders : Over FolderTree) (Told : List Notice → Type 0) : Type 0 where
  pub ends : EndsAir (record { pid = pid; carousel = carousel; weights = weights }) folder cycles Told sink folders s
