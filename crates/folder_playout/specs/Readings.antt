-- What is answered when a tree is read that is to be on the air.
use Rattle.std.specs.Prelude.{◌≡◌, ◌≤◌, ◌⊎◌, ℕ, Bool, true, false, List, [], ◌∷◌, slice_get, Option, Some, None, Result, Ok, Err, nat_lt, if◌then◌else◌, Contains}
use Rattle.std.specs.List.{All}
use Rattle.std.specs.Option.{option_map}
use Rattle.std.specs.String.{string_bytes}
use Rattle.oc_bytes.specs.Outcome.{Rose, cap_at_u64}
use Rattle.path_tree.specs.Paths.{Bytes}
use Rattle.path_tree.specs.Texts.{text_of}
use Rattle.path_tree.specs.Trees.{Tree}
use Rattle.path_tree.specs.Edits.{apply_all, path_in}
use Rattle.path_tree.specs.declared.tree.Edit.{Edit}
use Rattle.path_tree.specs.declared.tree.EditFault.{EditFault}
use Rattle.path_tree.specs.declared.tree.EditFault.TheVariants as edit_faults
use Rattle.generation.specs.Publication.{Passed, limit_of}
use Rattle.generation_catalogue.specs.History.{put_bytes, refusal_of}
use Rattle.generation_catalogue.specs.declared.entry.Refusal.{Refusal}
use Rattle.generation_catalogue.specs.declared.entry.Refusal.TheVariants as refusals
use Rattle.generation_catalogue.specs.declared.journal.TheConstants.{MOST_PUT_BYTES}
use Rattle.folder_store.specs.Folders.{FolderTree, MayFail, is_folder_at}
use Rattle.folder_store.specs.Surveys.{Look, Stands, names_at, survey_of}
use Rattle.folder_store.specs.Walk.{Walked, IsTooDeep, IsBadName, edits_of}
use Rattle.folder_store.specs.declared.reading.TreeFault.{TreeFault}
use Rattle.folder_store.specs.declared.reading.TreeFault.TheVariants as trees
use Rattle.folder_playout.specs.declared.reading.Unread.{Unread}
use Rattle.folder_playout.specs.declared.reading.Unread.TheVariants as unread

-- A tree that can be sent. Or a refusal, with the text of the path at fault where there is one that isn't in the refusal itself. Or the text of the
-- path that couldn't be read. The text of the folder itself is `/`.
pub data Reading : Type 0 where
  Found : Tree → Reading
  Refused : TreeFault → Option Bytes → Reading
  Failed : Bytes → Reading

-- want of memory is no answer
abbrev pub reading_in : Result Tree Unread → List Reading
reading_in (Ok tree) = Found tree ∷ []
reading_in (Err (unread.Failed path)) = Failed (string_bytes path) ∷ []
reading_in (Err (unread.Refused fault path)) = Refused fault (option_map string_bytes path) ∷ []
reading_in (Err unread.NoMemory) = []

abbrev pub is_no_memory : Unread → Bool
is_no_memory unread.NoMemory = true
is_no_memory (unread.Failed path) = false
is_no_memory (unread.Refused fault path) = false

-- nothing was read, at some path
abbrev pub IsFailed : Reading → Type 0
IsFailed r = (path : Bytes) × (r ≡ Failed path)

-- ---- a known folder

abbrev pub unless_limit : Tree → Option Passed → Result Tree Refusal
unless_limit tree (Some passed) = Err (refusal_of passed)
unless_limit tree None = Ok tree

abbrev pub unless_fault : Result Tree (ℕ × EditFault) → Result Tree Refusal
unless_fault (Err fault) = Err (refusals.Edit fault.0 fault.1)
unless_fault (Ok tree) = unless_limit tree (limit_of tree)

-- the tree that edits make of the empty one, or the first refusal that holds, as a carousel's first commit has it
abbrev pub judged : List Edit → Result Tree Refusal
judged edits =
    if nat_lt MOST_PUT_BYTES (put_bytes edits) then Err (refusals.JournalFull (cap_at_u64 (put_bytes edits)))
    else unless_fault (apply_all [] edits)

-- The path of the edit whose file is too large. That of a folder which is too large is in the refusal itself, and no other refusal of
-- what a folder holds is of one path.
abbrev pub path_told : List Edit → Refusal → Option Bytes
path_told edits (refusals.Edit place edit_faults.FileTooLarge) = option_map (λ e. text_of (path_in e)) (slice_get edits place)
path_told edits _ = None

abbrev pub by_judgement : List Edit → Result Tree Refusal → Reading
by_judgement edits (Ok tree) = Found tree
by_judgement edits (Err refusal) = Refused (trees.Commit refusal) (path_told edits refusal)

-- the first entry in the order of the walk that breaks a rule
abbrev pub broken_in : Result Look Stands → Stands
broken_in (Ok look) = ([], [])
broken_in (Err broken) = broken

abbrev pub broken_path : FolderTree → Bytes → Bytes
broken_path t folder = text_of (names_at (broken_in (survey_of t folder)))

abbrev pub by_walk : Bytes → Walked → Reading
by_walk broken (Err IsTooDeep) = Refused trees.TooDeep (Some broken)
by_walk broken (Err IsBadName) = Refused trees.BadName (Some broken)
by_walk broken (Ok edits) = by_judgement edits (judged edits)

-- what is read of a folder, where the outside has no fault
abbrev pub reading_of : FolderTree → Bytes → Reading
reading_of t folder = if is_folder_at t folder then by_walk (broken_path t folder) (edits_of t folder) else Failed (text_of [])

-- ---- a folder of the outside

-- each of these is what a known folder gives, or a fault of the outside
abbrev pub AreOfFolder : FolderTree → Bytes → List Reading → Type 0
AreOfFolder t folder readings = All (λ r. IsFailed r ⊎ (r ≡ reading_of t folder)) readings

-- These were read of a folder, one after another, between two states of the outside: what stands there and is known stays, and the count of
-- faults never falls. A fault is one of the outside, or the known folder isn't there.
pub record AreRead (folder : Bytes) (before after : Option FolderTree) (faults faults_after : ℕ) (readings : List Reading) : Type 0 where
  pub same : after ≡ before
  pub later : faults ≤ faults_after
  pub known : (t : FolderTree) → before ≡ Some t → AreOfFolder t folder readings
  pub failed : (path : Bytes) → Contains readings (Failed path) → MayFail (Rose faults faults_after) before (λ t. is_folder_at t folder ≡ false)
