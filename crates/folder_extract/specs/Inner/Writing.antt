-- What became of one path, or of some of them.
use Rattle.std.specs.Prelude.{◌≡◌, Bool, true, false, Option, Result, Ok, Err}
use Rattle.path_tree.specs.Paths.{Bytes}
use Rattle.folder_store.specs.Folders.{FolderTree, MayFail}
use Rattle.folder_store.specs.Stores.{can_add, with_entries}
use Rattle.shell_streams.specs.Sending.{OutputState, HasPut, Puts}
use Rattle.shell_streams.specs.declared.output.OutputFault.{OutputFault}
use Rattle.folder_extract.specs.Extracting.{WrotePart}
use Rattle.folder_extract.specs.declared.extracting.Extracted.{Extracted}
use Rattle.folder_extract.specs.declared.extracting.Extracted.TheVariants as ends

-- these entries were written, and this was told
pub record Wrote (entries : FolderTree) (told : Bytes) (before after : Option FolderTree) (old new : OutputState) : Type 0 where
  pub wrote : after ≡ with_entries before entries
  pub told_is : HasPut old new told

-- the store failed at a path text, and nothing was told
pub record FailsAt (text : Bytes) (before after : Option FolderTree) (rose : Type 0) (old new : OutputState) : Type 0 where
  pub same : after ≡ before
  pub untold : new ≡ old
  pub cause : MayFail rose before (λ t. can_add t text ≡ false)

-- the output failed, or there was no memory
pub record Breaks (fault : OutputFault) (entries : FolderTree) (told : Bytes) (before after : Option FolderTree) (old new : OutputState) : Type 0 where
  pub part : WrotePart before after entries
  pub told_is : Puts {T = Unit {0}} (Err fault) old new told

-- What became of a path that has its place under this text: these entries are to be written and this is to be told, and it is whole
-- or isn't.
abbrev pub Takes : (text : Bytes) → (entries : FolderTree) → (told : Bytes) → (whole : Bool) → Result Extracted OutputFault → (before after : Option FolderTree) → (rose : Type 0) → (old new : OutputState) → Type 0
Takes text entries told whole (Ok ends.All) before after rose old new = Wrote entries told before after old new × (whole ≡ true)
Takes text entries told whole (Ok ends.NotAll) before after rose old new = Wrote entries told before after old new × (whole ≡ false)
Takes text entries told whole (Ok ends.Failed) before after rose old new = FailsAt text before after rose old new
Takes text entries told whole (Err fault) before after rose old new = Breaks fault entries told before after old new
