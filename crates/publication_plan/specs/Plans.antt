-- What `plan FOLDER CAROUSEL BITRATE` promises: the text is that of generation 1 of the folder's tree, or tells why there is none.
use Rattle.std.specs.Prelude.{◌≡◌, ◌⊎◌, ℕ, false, List, [], ◌∷◌, Option, Some, None, Result, Ok, Err}
use Rattle.path_tree.specs.Paths.{Bytes, PathNames}
use Rattle.path_tree.specs.Edits.{apply_all}
use Rattle.path_tree.specs.Trees.{Tree}
use Rattle.path_tree.specs.declared.tree.Edit.{Edit}
use Rattle.path_tree.specs.declared.tree.EditFault.{EditFault}
use Rattle.generation.specs.Lawful.{IsPublishable}
use Rattle.generation.specs.Layouts.{generation_of}
use Rattle.generation_catalogue.specs.History.{CatalogueState, outcome_of}
use Rattle.generation_catalogue.specs.declared.entry.Refusal.{Refusal}
use Rattle.folder_store.specs.Folders.{FolderTree, IsRefused, MayFail, is_folder_at}
use Rattle.folder_store.specs.Walk.{Walked, edits_of, text_below}
use Rattle.folder_store.specs.Surveys.{Look, Stands, names_at, survey_of}
use Rattle.shell_streams.specs.Sending.{OutputState, Puts}
use Rattle.shell_streams.specs.declared.output.OutputFault.{OutputFault}
use Rattle.shell_streams.specs.declared.output.OutputFault.TheVariants as faults
use Rattle.publication_plan.specs.Refusals.{IsNoFile, commit_line, rule_line}
use Rattle.publication_plan.specs.Telling.{plan_text, unreadable_line}
use Rattle.publication_plan.specs.declared.planning.PlanEnd.{PlanEnd}
use Rattle.publication_plan.specs.declared.planning.PlanEnd.TheVariants as ends

-- ---- of a known folder

-- a carousel of which nothing is committed yet; what a commit answers doesn't depend on the weights
abbrev pub new_carousel : ℕ → CatalogueState
new_carousel carousel = record { carousel = carousel; weights = []; entries = [] }

abbrev pub first_outcome : ℕ → List Edit → Result ℕ Refusal
first_outcome carousel edits = outcome_of (new_carousel carousel) edits

-- what a survey of a folder told
abbrev pub look_in : Result Look Stands → Look
look_in (Ok k) = k
look_in (Err s) = record { left = []; large = None }

abbrev pub broken_in : Result Look Stands → Stands
broken_in (Ok k) = ([], [])
broken_in (Err s) = s

-- the plan of the tree that the commit makes, or the line of its refusal
abbrev pub commit_text : (weights : List ℕ) (carousel bitrate : ℕ) → FolderTree → Look → List Edit → Result ℕ Refusal → Result Tree (ℕ × EditFault) → Result Bytes Bytes
commit_text weights carousel bitrate t k es (Ok number) (Ok tree) = Ok (plan_text weights bitrate (generation_of carousel (tree ∷ [])) k.left)
commit_text weights carousel bitrate t k es (Ok number) (Err fault) = Err []
commit_text weights carousel bitrate t k es (Err refusal) applied = Err (commit_line t k es applied refusal)

abbrev pub walk_text : (weights : List ℕ) (carousel bitrate : ℕ) → FolderTree → Result Look Stands → Walked → Result Bytes Bytes
walk_text weights carousel bitrate t look (Ok es) = commit_text weights carousel bitrate t (look_in look) es (first_outcome carousel es) (apply_all [] es)
walk_text weights carousel bitrate t look (Err rule) = Err (rule_line rule (names_at (broken_in look)))

-- the whole plan of a folder, or the line that says why it can't be published
abbrev pub plan_of : (folder : Bytes) (weights : List ℕ) (carousel bitrate : ℕ) → FolderTree → Result Bytes Bytes
plan_of folder weights carousel bitrate t = walk_text weights carousel bitrate t (survey_of t folder) (edits_of t folder)

-- the folder isn't there, or the file isn't that is too large
abbrev pub CantBeRead : (folder : Bytes) → FolderTree → Type 0
CantBeRead folder t = (is_folder_at t folder ≡ false) ⊎ IsNoFile (look_in (survey_of t folder)).large t

-- ---- of any

-- the plan of a tree that can be published, which is the folder's where that is known
pub record IsPlan (folder : Bytes) (weights : List ℕ) (carousel bitrate : ℕ) (told : Option FolderTree) (text : Bytes) : Type 0 where
  pub tree : Tree
  pub left : List Stands
  pub publishable : IsPublishable tree
  pub text_is : text ≡ plan_text weights bitrate (generation_of carousel (tree ∷ [])) left
  pub known : (t : FolderTree) → told ≡ Some t → plan_of folder weights carousel bitrate t ≡ Ok text

-- a path that couldn't be read, that of the folder itself without names: its text was refused last, and a fault was counted or what is
-- known isn't there
pub record IsUnreadable (folder : Bytes) (told : Option FolderTree) (rose : Type 0) (refused : Option Bytes) (text : Bytes) : Type 0 where
  pub path : PathNames
  pub text_is : text ≡ unreadable_line path
  pub named : IsRefused refused (text_below folder path)
  pub fault : MayFail rose told (CantBeRead folder)

-- the text of each end; `rose` says that a fault of the folders was counted, `refused` which path text they refused last
abbrev pub IsTextOf : (folder : Bytes) (weights : List ℕ) (carousel bitrate : ℕ) → Option FolderTree → Type 0 → Option Bytes → PlanEnd → Bytes → Type 0
IsTextOf folder weights carousel bitrate told rose refused ends.Published text = IsPlan folder weights carousel bitrate told text
IsTextOf folder weights carousel bitrate told rose refused ends.Refused text = (t : FolderTree) → told ≡ Some t → plan_of folder weights carousel bitrate t ≡ Err text
IsTextOf folder weights carousel bitrate told rose refused ends.Unreadable text = IsUnreadable folder told rose refused text

-- its text, and how it was put
pub record Tells (folder : Bytes) (weights : List ℕ) (carousel bitrate : ℕ) (told : Option FolderTree) (rose : Type 0) (refused : Option Bytes) (end : PlanEnd) (result : Result (Unit {0}) OutputFault) (old new : OutputState) : Type 0 where
  pub text : Bytes
  pub is : IsTextOf folder weights carousel bitrate told rose refused end text
  pub puts : Puts result old new text

-- all of it, and nothing is pending
pub record TellsAll (folder : Bytes) (weights : List ℕ) (carousel bitrate : ℕ) (told : Option FolderTree) (rose : Type 0) (refused : Option Bytes) (end : PlanEnd) (old new : OutputState) : Type 0 where
  pub tells : Tells folder weights carousel bitrate told rose refused end (Ok tt) old new
  pub empty : new.pending ≡ []

-- a front of it
pub record TellsPart (folder : Bytes) (weights : List ℕ) (carousel bitrate : ℕ) (told : Option FolderTree) (rose : Type 0) (refused : Option Bytes) (fault : OutputFault) (old new : OutputState) : Type 0 where
  pub end : PlanEnd
  pub tells : Tells folder weights carousel bitrate told rose refused end (Err fault) old new

abbrev pub EndsPlan : (folder : Bytes) (weights : List ℕ) (carousel bitrate : ℕ) → Option FolderTree → Type 0 → Option Bytes → Result PlanEnd OutputFault → (old new : OutputState) → Type 0
EndsPlan folder weights carousel bitrate told rose refused (Ok end) old new = TellsAll folder weights carousel bitrate told rose refused end old new
EndsPlan folder weights carousel bitrate told rose refused (Err faults.Failed) old new = TellsPart folder weights carousel bitrate told rose refused faults.Failed old new
EndsPlan folder weights carousel bitrate told rose refused (Err faults.NoMemory) old new = (new ≡ old) ⊎ TellsPart folder weights carousel bitrate told rose refused faults.NoMemory old new

-- a known tree without the folder is unreadable, unless the output fails or there is no memory
abbrev pub NeedsFolder : (folder : Bytes) → Option FolderTree → Result PlanEnd OutputFault → Type 0
NeedsFolder folder told (Ok ends.Unreadable) = Unit {0}
NeedsFolder folder told (Ok _) = (t : FolderTree) → told ≡ Some t → is_folder_at t folder ≡ false → ⊥
NeedsFolder folder told (Err fault) = Unit {0}

pub record Plans (folder : Bytes) (weights : List ℕ) (carousel bitrate : ℕ) (result : Result PlanEnd OutputFault) (old new : OutputState) (told : Option FolderTree) (rose : Type 0) (refused : Option Bytes) : Type 0 where
  pub ends : EndsPlan folder weights carousel bitrate told rose refused result old new
  pub needs : NeedsFolder folder told result
