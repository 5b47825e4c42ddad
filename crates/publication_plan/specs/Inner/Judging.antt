-- What is told of a survey.
use Rattle.std.specs.Prelude.{◌≡◌, ℕ, false, nat_lt, List, [], Option, Some, Ok, IsSomeAnd}
use Rattle.std.specs.Option.{option_map}
use Rattle.std.specs.String.{string_bytes}
use Rattle.path_tree.specs.Edits.{apply_all}
use Rattle.path_tree.specs.Paths.{Bytes}
use Rattle.path_tree.specs.Trees.{Tree}
use Rattle.path_tree.specs.declared.tree.Edit.{Edit}
use Rattle.path_tree.specs.declared.tree.EditFault.TheVariants as edits
use Rattle.generation.specs.Lawful.{IsPublishable}
use Rattle.generation_catalogue.specs.History.{put_bytes}
use Rattle.generation_catalogue.specs.declared.entry.Refusal.{Refusal}
use Rattle.generation_catalogue.specs.declared.entry.Refusal.TheVariants as refusals
use Rattle.generation_catalogue.specs.declared.journal.TheConstants.{MOST_PUT_BYTES}
use Rattle.folder_store.specs.Folders.{FolderTree, IsRefused, MayFail}
use Rattle.folder_store.specs.Surveys.{at_in, names_at, view_survey}
use Rattle.folder_store.specs.Walk.{IsTooDeep, IsBadName}
use Rattle.folder_store.specs.declared.reading.ReadTree.{ReadTree}
use Rattle.folder_store.specs.declared.reading.ReadTree.TheVariants as causes
use Rattle.folder_store.specs.declared.surveying.Surveyed.{Surveyed}
use Rattle.folder_store.specs.declared.surveying.SurveyFault.{SurveyFault}
use Rattle.publication_plan.specs.Plans.{first_outcome}
use Rattle.publication_plan.specs.Refusals.{IsNoFile, commit_line, rule_line}
use Rattle.publication_plan.specs.Inner.Refusals.{refused_path}
use Rattle.publication_plan.specs.Telling.{unreadable_line}
use Rattle.publication_plan.specs.declared.planning.PlanEnd.{PlanEnd}
use Rattle.publication_plan.specs.declared.planning.PlanEnd.TheVariants as ends

-- a commit of the edits is accepted on a new carousel, and makes this tree
pub record IsAccepted (es : List Edit) (tree : Tree) : Type 0 where
  pub small : nat_lt MOST_PUT_BYTES (put_bytes es) ≡ false
  pub applied : apply_all [] es ≡ Ok tree
  pub publishable : IsPublishable tree
  pub outcome : (carousel : ℕ) → first_outcome carousel es ≡ Ok 1

-- the line of a walk's own fault
abbrev pub FaultTells : SurveyFault → PlanEnd → Bytes → Type 0
FaultTells fault end text = go fault.cause end where
  go : ReadTree → PlanEnd → Type 0
  go causes.FolderFault ends.Unreadable = text ≡ unreadable_line (names_at (at_in fault.at))
  go causes.TooDeep ends.Refused = text ≡ rule_line IsTooDeep (names_at (at_in fault.at))
  go causes.BadName ends.Refused = text ≡ rule_line IsBadName (names_at (at_in fault.at))
  go _ _ = ⊥

-- the file that is too large can't be read again: its path text was refused last
abbrev pub SizeFails : (told : Option FolderTree) (rose : Type 0) (refused : Option Bytes) → Surveyed → Refusal → Type 0
SizeFails told rose refused survey (refusals.Edit place edits.FileTooLarge) =
    MayFail rose told (IsNoFile (option_map string_bytes survey.large)) × IsSomeAnd (option_map string_bytes survey.large) (IsRefused refused)
SizeFails told rose refused survey _ = ⊥

-- the line of a commit's refusal, or of the file whose size can't be read
abbrev pub RefusalTells : (told : Option FolderTree) (rose : Type 0) (refused : Option Bytes) → Surveyed → Refusal → PlanEnd → Bytes → Type 0
RefusalTells told rose refused survey refusal ends.Refused text = (t : FolderTree) → told ≡ Some t → text ≡ commit_line t (view_survey survey) survey.edits.items (apply_all [] survey.edits.items) refusal
RefusalTells told rose refused survey refusal ends.Unreadable text = (text ≡ unreadable_line (refused_path survey.edits.items refusal)) × SizeFails told rose refused survey refusal
RefusalTells told rose refused survey refusal ends.Published text = ⊥
