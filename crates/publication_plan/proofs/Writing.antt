-- A text that was told, on its way to the output.
use Rattle.std.proofs.Common.{◌≡◌, ℕ, [], List, Option, Ok, Err, refl, inl, inr}
use Rattle.path_tree.specs.Paths.{Bytes}
use Rattle.folder_store.specs.Folders.{FolderTree}
use Rattle.shell_streams.specs.Sending.{OutputState, Puts}
use Rattle.shell_streams.specs.declared.output.OutputFault.{OutputFault}
use Rattle.shell_streams.specs.declared.output.OutputFault.TheVariants as faults
use Rattle.publication_plan.specs.Plans.{IsTextOf, NeedsFolder, Plans}
use Rattle.publication_plan.specs.declared.planning.PlanEnd.{PlanEnd}

-- nothing was written
pub plans_none : (folder : Bytes) (weights : List ℕ) (carousel bitrate : ℕ) (told : Option FolderTree) (rose : Type 0) (refused : Option Bytes) (o : OutputState) → Plans folder weights carousel bitrate (Err faults.NoMemory) o o told rose refused
plans_none folder weights carousel bitrate told rose refused o = record { ends = inl refl; needs = tt }

-- all of it was
pub plans_all : (folder : Bytes) (weights : List ℕ) (carousel bitrate : ℕ) (told : Option FolderTree) (rose : Type 0) (refused : Option Bytes) (end : PlanEnd) (text : Bytes) (old new : OutputState)
    → IsTextOf folder weights carousel bitrate told rose refused end text → NeedsFolder folder told (Ok end) → Puts {T = Unit {0}} (Ok tt) old new text → new.pending ≡ []
    → Plans folder weights carousel bitrate (Ok end) old new told rose refused
plans_all folder weights carousel bitrate told rose refused end text old new is needs puts empty = record {
  ends = record { tells = record { text = text; is = is; puts = puts }; empty = empty };
  needs = needs;
}

-- a front of it was
pub plans_part : (folder : Bytes) (weights : List ℕ) (carousel bitrate : ℕ) (told : Option FolderTree) (rose : Type 0) (refused : Option Bytes) (end : PlanEnd) (text : Bytes) (fault : OutputFault) (old new : OutputState)
    → IsTextOf folder weights carousel bitrate told rose refused end text → Puts {T = Unit {0}} (Err fault) old new text → Plans folder weights carousel bitrate (Err fault) old new told rose refused
plans_part folder weights carousel bitrate told rose refused end text faults.Failed old new is puts = record {
  ends = record { end = end; tells = record { text = text; is = is; puts = puts } };
  needs = tt;
}
plans_part folder weights carousel bitrate told rose refused end text faults.NoMemory old new is puts = record {
  ends = inr (record { end = end; tells = record { text = text; is = is; puts = puts } });
  needs = tt;
}
