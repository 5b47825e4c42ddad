-- Why a folder can't be published: the cause as `publish` has it, and the path, the size and the limit where it is of one.
use Rattle.std.specs.Prelude.{◌≡◌, ℕ, List, ◌∷◌, ◌++◌, length, take, slice_get, Option, Some, None, Result, Ok, Err, codes}
use Rattle.std.specs.Option.{option_map}
use Rattle.path_tree.specs.Paths.{Bytes, PathNames}
use Rattle.path_tree.specs.Texts.{text_of}
use Rattle.path_tree.specs.Edits.{path_in}
use Rattle.path_tree.specs.Trees.{Tree}
use Rattle.path_tree.specs.declared.text.TheConstants.{MOST_NAMES}
use Rattle.path_tree.specs.declared.tree.Edit.{Edit}
use Rattle.path_tree.specs.declared.tree.EditFault.{EditFault}
use Rattle.path_tree.specs.declared.tree.EditFault.TheVariants as edits
use Rattle.path_tree.specs.declared.tree.TheConstants.{MOST_CONTENT}
use Rattle.biop_object.specs.declared.written.TheConstants.{MOST_FOLDER_SIZE}
use Rattle.dsi_dii.specs.declared.TheConstants.{MOST_TOTAL_SIZE}
use Rattle.module_groups.specs.declared.TheConstants.{GREATEST_ID}
use Rattle.generation.specs.Sizes.{large_size}
use Rattle.generation.specs.declared.limit.TheConstants.{MOST_OBJECTS}
use Rattle.generation_catalogue.specs.declared.entry.Refusal.{Refusal}
use Rattle.generation_catalogue.specs.declared.entry.Refusal.TheVariants as refusals
use Rattle.generation_catalogue.specs.declared.journal.TheConstants.{MOST_PUT_BYTES}
use Rattle.folder_store.specs.Folders.{FolderTree, content_of, entry_at}
use Rattle.folder_store.specs.Walk.{WalkFault, IsTooDeep, IsBadName}
use Rattle.folder_store.specs.Surveys.{Look}
use Rattle.publication_plan.specs.Telling.{refused_line}
use Rattle.publication_plan.specs.declared.refusing.TheConstants.{MOST_NAME, MOST_SIZED}
use Rattle.shell_words.specs.Texts.{refusal_line}

-- the walk's own rules: how deep a path goes, and how many bytes a name has
abbrev pub rule_line : WalkFault → PathNames → Bytes
rule_line IsTooDeep p = refused_line (codes "too-deep" ++ 32 ∷ text_of p) None (Some MOST_NAMES)
rule_line IsBadName p = refused_line (codes "bad-name" ++ 32 ∷ text_of p) None (Some MOST_NAME)

-- a file that is too large is named by its path
abbrev pub cause_text : List Edit → Refusal → Bytes
cause_text es (refusals.Edit place edits.FileTooLarge) = go (slice_get es place) where
  go : Option Edit → Bytes
  go (Some e) = codes "file-too-large " ++ text_of (path_in e)
  go None = refusal_line (refusals.Edit place edits.FileTooLarge)
cause_text es refusal = refusal_line refusal

-- how many bytes the file has that is too large, as far as they are counted
abbrev pub size_at : FolderTree → Option Bytes → Option ℕ
size_at t None = None
size_at t (Some text) = option_map (λ content. length (take MOST_SIZED content)) (content_of (entry_at t text))

-- how many bytes the folder's object has that is too large
abbrev pub size_in : Result Tree (ℕ × EditFault) → Option ℕ
size_in (Ok tree) = large_size tree
size_in (Err fault) = None

-- the size that passes a limit, where it isn't in the cause
abbrev pub size_told : FolderTree → Look → Result Tree (ℕ × EditFault) → Refusal → Option ℕ
size_told t k applied (refusals.Edit place edits.FileTooLarge) = size_at t k.large
size_told t k applied (refusals.FolderTooLarge p) = size_in applied
size_told t k applied _ = None

abbrev pub limit_of : Refusal → Option ℕ
limit_of (refusals.JournalFull n) = Some MOST_PUT_BYTES
limit_of (refusals.Edit place edits.FileTooLarge) = Some MOST_CONTENT
limit_of (refusals.TooManyObjects n) = Some MOST_OBJECTS
limit_of (refusals.FolderTooLarge p) = Some MOST_FOLDER_SIZE
limit_of (refusals.TooManyBytes n) = Some MOST_TOTAL_SIZE
limit_of (refusals.TooManyModules n) = Some GREATEST_ID
limit_of _ = None

abbrev pub commit_line : FolderTree → Look → List Edit → Result Tree (ℕ × EditFault) → Refusal → Bytes
commit_line t k es applied refusal = refused_line (cause_text es refusal) (size_told t k applied refusal) (limit_of refusal)

-- ---- the size that couldn't be read

-- no file stands at the path text of the file that is too large
abbrev pub IsNoFile : Option Bytes → FolderTree → Type 0
IsNoFile large t = (text : Bytes) × ((large ≡ Some text) × (content_of (entry_at t text) ≡ None))
