-- A generation that is made of a folder, and its cycles on their way to the sink.
use Rattle.std.specs.Prelude.{◌≡◌, ℕ, false, List, [], ◌∷◌, Option}
use Rattle.std.specs.List.{concat}
use Rattle.path_tree.specs.Trees.{Tree}
use Rattle.generation.specs.Layouts.{GenerationState, generation_of}
use Rattle.folder_store.specs.Folders.{FolderTree, is_folder_at, MayFail}
use Rattle.section_stream.specs.Groups.{packets_of_group}
use Rattle.section_stream.specs.Packing.{idle}
use Rattle.shell_streams.specs.Cuts.{Bytes}
use Rattle.receiver_commands.specs.Over.{Over, Failed}
use Rattle.shell_commands.specs.Publish.{IsTreeOf, Refuses}
use Rattle.receiver_commands.specs.declared.status.Status.{Status}
use Rattle.receiver_commands.specs.declared.status.Status.TheVariants as status

-- why a folder gives no generation
abbrev pub Refused : Bytes → ℕ → Over FolderTree → Status → Type 0
Refused folder carousel folders status.FolderFault = MayFail (Failed folders) folders.before (λ t. is_folder_at t folder ≡ false)
Refused folder carousel folders (status.TreeRefused fault) = Refuses folder carousel folders fault
Refused folder carousel folders status.NoMemory = Unit {0}
Refused folder carousel folders _ = ⊥

-- generation 1 of the carousel, of a tree that is the folder's where the folders are known
pub record IsOfFolder (folder : Bytes) (carousel : ℕ) (told : Option FolderTree) (g : GenerationState) : Type 0 where
  pub tree : Tree
  pub is : g ≡ generation_of carousel (tree ∷ [])
  pub of : IsTreeOf folder carousel told tree

-- the bytes of all packets of these sections on a PID, which are one group and have continuity counters from 0
abbrev pub group_bytes : (pid : ℕ) → List Bytes → Bytes
group_bytes pid sections = concat (packets_of_group (idle pid 0) sections)
