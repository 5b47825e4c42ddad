-- What `publish FOLDER CAROUSEL CYCLES` promises: the folder's files and bare folders are one commit on generation 0, and whole cycles
-- of generation 1 are written as packets of one PID, in which each module comes as often as it weighs. The PID of `publish` is 256;
-- here it is a parameter.
use Rattle.std.specs.Prelude.{◌≡◌, ◌⊎◌, ℕ, List, false, Option, Some}
use Rattle.path_tree.specs.Trees.{Tree}
use Rattle.generation.specs.Lawful.{IsPublishable}
use Rattle.folder_store.specs.Folders.{FolderTree, IsFolderTree, is_folder_at, MayFail}
use Rattle.folder_store.specs.Walk.{HasFiles}
use Rattle.folder_store.specs.declared.reading.TreeFault.{TreeFault}
use Rattle.carousel_world.specs.Publishing.{published_bytes}
use Rattle.shell_streams.specs.Cuts.{Bytes}
use Rattle.receiver_commands.specs.Over.{Over, Failed, IsUntouched, WritesAll, WritesPrefix, EndsWriting}
use Rattle.shell_commands.specs.Publishing.{publish_end, tree_of_folder}
use Rattle.receiver_commands.specs.declared.status.Status.{Status}
use Rattle.receiver_commands.specs.declared.status.Status.TheVariants as status

-- A tree that can be published. Where the folders are known, it is that of the folder, which has a file of these bytes at a path exactly where
-- the folder has it at the path's text, and keeps a folder exactly where the folder has a bare one there; and nothing refuses it.
pub record IsTreeOf (folder : Bytes) (carousel : ℕ) (told : Option FolderTree) (tree : Tree) : Type 0 where
  pub publishable : IsPublishable tree
  pub of_folder : (t : FolderTree) → told ≡ Some t → tree_of_folder folder carousel t ≡ Some tree
  pub accepted : (t : FolderTree) → told ≡ Some t → publish_end folder carousel t ≡ status.Done
  pub files : (t : FolderTree) → told ≡ Some t → IsFolderTree t → HasFiles t folder tree

-- all that is sent of such a tree was written
pub record Published (folder : Bytes) (carousel : ℕ) (sent_of : Tree → Bytes) (sink : Over Bytes) (folders : Over FolderTree) : Type 0 where
  pub tree : Tree
  pub of : IsTreeOf folder carousel folders.before tree
  pub writes : WritesAll sink (sent_of tree)

-- a prefix of it was
pub record Sending (folder : Bytes) (carousel : ℕ) (sent_of : Tree → Bytes) (sink : Over Bytes) (folders : Over FolderTree) : Type 0 where
  pub tree : Tree
  pub of : IsTreeOf folder carousel folders.before tree
  pub writes : WritesPrefix sink (sent_of tree)

-- the walk's first fault refuses the known tree, or else the commit's refusal
abbrev pub Refuses : Bytes → ℕ → Over FolderTree → TreeFault → Type 0
Refuses folder carousel folders fault = (t : FolderTree) → folders.before ≡ Some t → publish_end folder carousel t ≡ status.TreeRefused fault

-- how it ends, where this is sent of a tree
abbrev pub SendsAll : (folder : Bytes) (carousel : ℕ) (sent_of : Tree → Bytes) → Over Bytes
    → Over FolderTree → Status → Type 0
SendsAll folder carousel sent_of sink folders status.Done =
    Published folder carousel sent_of sink folders
SendsAll folder carousel sent_of sink folders (status.TreeRefused fault) =
    Refuses folder carousel folders fault × IsUntouched sink
SendsAll folder carousel sent_of sink folders status.FolderFault =
    MayFail (Failed folders) folders.before (λ t. is_folder_at t folder ≡ false) × IsUntouched sink
SendsAll folder carousel sent_of sink folders _ = ⊥

abbrev pub EndsPublish : (folder : Bytes) (carousel : ℕ) (sent_of : Tree → Bytes) → Over Bytes
    → Over FolderTree → Status → Type 0
EndsPublish folder carousel sent_of sink folders =
    EndsWriting (SendsAll folder carousel sent_of sink folders)
    (Sending folder carousel sent_of sink folders)
    (IsUntouched sink ⊎ Sending folder carousel sent_of sink folders) sink

-- a known tree without the folder always answers so, except out of memory
abbrev pub NeedsFolder : Bytes → Over FolderTree → Status → Type 0
NeedsFolder folder folders s = (t : FolderTree) → folders.before ≡ Some t → is_folder_at t folder ≡ false → (s ≡ status.FolderFault) ⊎ (s ≡ status.NoMemory)

pub record Sends (folder : Bytes) (carousel : ℕ) (sent_of : Tree → Bytes) (s : Status)
    (sink : Over Bytes) (folders : Over FolderTree) : Type 0 where
  pub ends : EndsPublish folder carousel sent_of sink folders s
  pub needs : NeedsFolder folder folders s

abbrev pub Publishes : (pid : ℕ) (folder : Bytes) (carousel : ℕ) (weights : List ℕ) (cycles : ℕ)
    → Status → (sink : Over Bytes) (folders : Over FolderTree) → Type 0
Publishes pid folder carousel weights cycles s sink folders =
    Sends folder carousel (published_bytes pid carousel weights cycles) s sink folders
