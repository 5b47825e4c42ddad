-- What is written of a carousel into a folder of the outside, and how an extraction ends.
use Rattle.std.specs.Prelude.{◌≡◌, Bool, true, false, List, [], ◌∷◌, ◌++◌, Option, Result, Ok, Err, if◌then◌else◌}
use Rattle.std.specs.List.{flat_map}
use Rattle.path_tree.specs.Paths.{Bytes, PathNames}
use Rattle.path_resolver.specs.declared.answer.Answer.{Answer}
use Rattle.path_resolver.specs.declared.answer.Answer.TheVariants as answers
use Rattle.folder_store.specs.Folders.{AFile, AFolder, FolderTree, MayFail}
use Rattle.folder_store.specs.Stores.{can_add, with_entries}
use Rattle.folder_store.specs.Walk.{text_below}
use Rattle.shell_streams.specs.Sending.{OutputState, HasPut, Puts}
use Rattle.shell_streams.specs.declared.output.OutputFault.{OutputFault}
use Rattle.shell_words.specs.Texts.{is_found}
use Rattle.folder_extract.specs.Naming.{can_stand}
use Rattle.folder_extract.specs.Telling.{listed, lines_for, extract_text, all_extracted}
use Rattle.folder_extract.specs.declared.extracting.Extracted.{Extracted}
use Rattle.folder_extract.specs.declared.extracting.Extracted.TheVariants as ends

-- ---- the files and folders that are written

abbrev pub entries_of : Bytes → Answer → FolderTree
entries_of text (answers.File content) = (text, AFile content) ∷ []
entries_of text (answers.Folder names) = (text, AFolder) ∷ []
entries_of text _ = []

abbrev pub entries_at : (folder : Bytes) → (PathNames → Answer) → PathNames → FolderTree
entries_at folder answer p = if can_stand p then entries_of (text_below folder p) (answer p) else []

-- in the order of the paths
abbrev pub entries_for : (folder : Bytes) → (PathNames → Answer) → List PathNames → FolderTree
entries_for folder answer paths = flat_map (entries_at folder answer) paths

-- ---- how it ends

-- a front of the entries was added to the tree, where that is told: each of them whole
pub record WrotePart (before after : Option FolderTree) (entries : FolderTree) : Type 0 where
  pub part : FolderTree
  pub rest : FolderTree
  pub split : entries ≡ part ++ rest
  pub wrote : after ≡ with_entries before part

-- all paths of the listing were gone through
pub record EndsWhole (folder : Bytes) (answer : PathNames → Answer) (all : Bool) (before after : Option FolderTree) (old new : OutputState) : Type 0 where
  pub wrote : after ≡ with_entries before (entries_for folder answer (listed answer))
  pub told : HasPut old new (extract_text answer)
  pub all_is : all_extracted answer ≡ all

-- the store failed at one of them, a file or a folder that can stand in the folder; those before it were gone through
pub record StopsAt (folder : Bytes) (answer : PathNames → Answer) (before after : Option FolderTree) (rose : Type 0) (old new : OutputState) : Type 0 where
  pub done : List PathNames
  pub path : PathNames
  pub rest : List PathNames
  pub split : listed answer ≡ done ++ path ∷ rest
  pub can : can_stand path ≡ true
  pub found : is_found (answer path) ≡ true
  pub wrote : after ≡ with_entries before (entries_for folder answer done)
  pub told : HasPut old new (lines_for answer done)
  pub cause : MayFail rose after (λ t. can_add t (text_below folder path) ≡ false)

abbrev pub Ends : (folder : Bytes) → (PathNames → Answer) → Result Extracted OutputFault → (before after : Option FolderTree) → (rose : Type 0) → (old new : OutputState) → Type 0
Ends folder answer (Ok ends.All) before after rose old new = EndsWhole folder answer true before after old new
Ends folder answer (Ok ends.NotAll) before after rose old new = EndsWhole folder answer false before after old new
Ends folder answer (Ok ends.Failed) before after rose old new = StopsAt folder answer before after rose old new
Ends folder answer (Err fault) before after rose old new = Puts {T = Unit {0}} (Err fault) old new (extract_text answer)
