-- What `extract PID FOLDER` promises: the sections of one PID are heard by one receiver, and each file and folder that it then answers is
-- written into a folder that is made.
use Rattle.std.specs.Prelude.{◌≡◌, ℕ, Bool, true, false, List, ◌∷◌, ◌++◌}
use Rattle.path_tree.specs.Paths.{PathNames}
use Rattle.path_resolver.specs.declared.answer.Answer.{Answer}
use Rattle.folder_store.specs.Folders.{FolderTree, MayFail}
use Rattle.folder_store.specs.Stores.{can_add, with_entries}
use Rattle.folder_store.specs.Walk.{text_below}
use Rattle.folder_extract.specs.Naming.{can_stand}
use Rattle.folder_extract.specs.Telling.{all_extracted, extract_text, lines_for, listed}
use Rattle.folder_extract.specs.Extracting.{entries_for, WrotePart}
use Rattle.tuner_core.specs.LookBack.{answer_after}
use Rattle.shell_streams.specs.Cuts.{Bytes}
use Rattle.shell_streams.specs.Carriers.{sections_by}
use Rattle.shell_streams.specs.declared.carrier.Carrier.TheVariants as carriers
use Rattle.shell_words.specs.Texts.{is_found}
use Rattle.receiver_commands.specs.Over.{Over, Failed, IsUntouched, TakesPrefix, WritesAll, WritesPrefix, EndsRead}
use Rattle.receiver_commands.specs.Replies.{Hears}
use Rattle.receiver_commands.specs.declared.status.Status.{Status}
use Rattle.receiver_commands.specs.declared.status.Status.TheVariants as status

-- all files and folders that are answered and can be written, in order
abbrev pub all_entries : (folder : Bytes) → (PathNames → Answer) → FolderTree
all_entries folder answer = entries_for folder answer (listed answer)

-- ---- how it ends

-- all of them were written, and the whole text; whether that is all that is answered
pub record ExtractedAll (pid : ℕ) (folder : Bytes) (all : Bool) (source sink : Over Bytes) (store : Over FolderTree) : Type 0 where
  pub sections : List Bytes
  pub hears : Hears (carriers.Packets pid) source sections
  pub all_is : all_extracted (answer_after sections) ≡ all
  pub wrote : store.after ≡ with_entries store.before (all_entries folder (answer_after sections))
  pub writes : WritesAll sink (extract_text (answer_after sections))

-- The store failed, or couldn't take the file or the folder at a path: all before it were gone through.
pub record ExtractedUpTo (pid : ℕ) (folder : Bytes) (source sink : Over Bytes) (store : Over FolderTree) : Type 0 where
  pub sections : List Bytes
  pub hears : Hears (carriers.Packets pid) source sections
  pub done : List PathNames
  pub path : PathNames
  pub rest : List PathNames
  pub split : listed (answer_after sections) ≡ done ++ path ∷ rest
  pub can : can_stand path ≡ true
  pub found : is_found (answer_after sections path) ≡ true
  pub cause : MayFail (Failed store) store.after (λ t. can_add t (text_below folder path) ≡ false)
  pub wrote : store.after ≡ with_entries store.before (entries_for folder (answer_after sections) done)
  pub writes : WritesAll sink (lines_for (answer_after sections) done)

-- the first of them were written, each whole, and a prefix of the text
pub record ExtractedPart (pid : ℕ) (folder : Bytes) (source sink : Over Bytes) (store : Over FolderTree) : Type 0 where
  pub sections : List Bytes
  pub hears : Hears (carriers.Packets pid) source sections
  pub wrote : WrotePart store.before store.after (all_entries folder (answer_after sections))
  pub writes : WritesPrefix sink (extract_text (answer_after sections))

-- nothing was made, and nothing written
abbrev pub NothingMade : Over Bytes → Over FolderTree → Type 0
NothingMade sink store = IsUntouched sink × IsUntouched store

abbrev pub MakesAll : (pid : ℕ) (folder : Bytes) (source sink : Over Bytes) → Over FolderTree
    → Status → Type 0
MakesAll pid folder source sink store status.Done =
    ExtractedAll pid folder true source sink store
MakesAll pid folder source sink store status.NotAll =
    ExtractedAll pid folder false source sink store
MakesAll pid folder source sink store status.FolderFault =
    ExtractedUpTo pid folder source sink store
MakesAll pid folder source sink store _ = ⊥

abbrev pub EndsExtract : (pid : ℕ) (folder : Bytes) (source sink : Over Bytes) → Over FolderTree
    → Status → Type 0
EndsExtract pid folder source sink store =
    EndsRead (sections_by (carriers.Packets pid)).goes_on (MakesAll pid folder source sink store)
    (NothingMade sink store) (ExtractedPart pid folder source sink store) source sink

pub record Extracts (pid : ℕ) (folder : Bytes) (s : Status) (source sink : Over Bytes) (store : Over FolderTree) : Type 0 where
  pub ends : EndsExtract pid folder source sink store s
  pub takes : TakesPrefix source
