-- What `plan FOLDER CAROUSEL BITRATE` promises: what `publish` would send of the folder is told, or why it can't be published.
use Rattle.std.specs.Prelude.{◌≡◌, ◌⊎◌, ℕ, List, Option, Some}
use Rattle.folder_store.specs.Folders.{FolderTree}
use Rattle.folder_store.specs.declared.reading.TreeFault.{TreeFault}
use Rattle.publication_plan.specs.Plans.{IsTextOf}
use Rattle.publication_plan.specs.declared.planning.PlanEnd.{PlanEnd}
use Rattle.publication_plan.specs.declared.planning.PlanEnd.TheVariants as planned
use Rattle.shell_streams.specs.Cuts.{Bytes}
use Rattle.receiver_commands.specs.Over.{Over, Failed, IsUntouched, WritesAll, WritesPrefix, EndsWriting}
use Rattle.shell_commands.specs.Publishing.{publish_end}
use Rattle.receiver_commands.specs.declared.status.Status.{Status}
use Rattle.receiver_commands.specs.declared.status.Status.TheVariants as status

-- The whole text of a plan that ends so was written; `refused` is the path text that the folders refused last.
pub record Planned (folder : Bytes) (carousel : ℕ) (weights : List ℕ) (bitrate : ℕ) (end : PlanEnd) (sink : Over Bytes) (folders : Over FolderTree) (refused : Option Bytes) : Type 0 where
  pub text : Bytes
  pub is : IsTextOf folder weights carousel bitrate folders.before (Failed folders) refused end text
  pub writes : WritesAll sink text

-- a prefix of one was
pub record Planning (folder : Bytes) (carousel : ℕ) (weights : List ℕ) (bitrate : ℕ) (sink : Over Bytes) (folders : Over FolderTree) (refused : Option Bytes) : Type 0 where
  pub end : PlanEnd
  pub text : Bytes
  pub is : IsTextOf folder weights carousel bitrate folders.before (Failed folders) refused end text
  pub writes : WritesPrefix sink text

abbrev pub PlansAll : (Told : PlanEnd → Type 0) → Status → Type 0
PlansAll Told status.Done = Told planned.Published
PlansAll Told status.NotAll = Told planned.Refused
PlansAll Told status.FolderFault = Told planned.Unreadable
PlansAll Told _ = ⊥

abbrev pub EndsPlan : (folder : Bytes) (carousel : ℕ) (weights : List ℕ) (bitrate : ℕ) → Over Bytes → Over FolderTree → Option Bytes → Status → Type 0
EndsPlan folder carousel weights bitrate sink folders refused =
    EndsWriting
    (PlansAll (λ end. Planned folder carousel weights bitrate end sink folders refused))
    (Planning folder carousel weights bitrate sink folders refused)
    (IsUntouched sink ⊎ Planning folder carousel weights bitrate sink folders refused) sink

-- Publishing a known folder ends alike: with all of it sent where the plan is whole, and with a refused tree where the plan says so. A
-- tree without the folder has neither.
abbrev pub EndsAlike : (folder : Bytes) (carousel : ℕ) → FolderTree → Status → Type 0
EndsAlike folder carousel t status.Done = publish_end folder carousel t ≡ status.Done
EndsAlike folder carousel t status.NotAll = (fault : TreeFault) × (publish_end folder carousel t ≡ status.TreeRefused fault)
EndsAlike folder carousel t _ = Unit {0}

pub record TellsPlan (folder : Bytes) (carousel : ℕ) (weights : List ℕ) (bitrate : ℕ) (s : Status) (sink : Over Bytes) (folders : Over FolderTree) (refused : Option Bytes) : Type 0 where
  pub ends : EndsPlan folder carousel weights bitrate sink folders refused s
  pub alike : (t : FolderTree) → folders.before ≡ Some t → EndsAlike folder carousel t s
