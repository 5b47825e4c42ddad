-- The lines of notices: this project's own. A line ends with a line feed.
use Rattle.std.specs.Prelude.{ℕ, [], ◌∷◌, ◌++◌, Option, Some, None, codes}
use Rattle.path_tree.specs.Paths.{Bytes}
use Rattle.path_tree.specs.declared.tree.EditFault.TheVariants as edit_faults
use Rattle.generation_catalogue.specs.declared.entry.Refusal.{Refusal}
use Rattle.generation_catalogue.specs.declared.entry.Refusal.TheVariants as refusals
use Rattle.folder_store.specs.declared.reading.TreeFault.{TreeFault}
use Rattle.folder_store.specs.declared.reading.TreeFault.TheVariants as trees
use Rattle.shell_words.specs.Texts.{line, refusal_line, with_number}
use Rattle.folder_playout.specs.Readings.{Reading, Found, Refused, Failed}
use Rattle.folder_playout.specs.Notices.{Notice, Began, Kept}
use Rattle.folder_playout.specs.declared.notices.Difference.{Difference}

-- a word, a generation and a cycle of it, and what is said of them
abbrev pub cycle_line : Bytes → (number cycle : ℕ) → Bytes → Bytes
cycle_line word number cycle words = line (with_number word number ++ 32 ∷ with_number (codes "cycle") cycle ++ 32 ∷ words)

abbrev pub difference_words : Difference → Bytes
difference_words d = with_number (codes "files") d.files ++ 32 ∷ with_number (codes "modules") d.modules ++ 32 ∷ with_number (codes "bytes") d.bytes

-- a word, and the text of the path where there is one
abbrev pub with_path : Bytes → Option Bytes → Bytes
with_path word (Some path) = word ++ 32 ∷ path
with_path word None = word

-- a file that is too large is named by its path, where that is known, and not by the place of its edit
abbrev pub commit_words : Refusal → Option Bytes → Bytes
commit_words (refusals.Edit place edit_faults.FileTooLarge) (Some path) = codes "file-too-large" ++ 32 ∷ path
commit_words refusal _ = refusal_line refusal

abbrev pub refused_words : TreeFault → Option Bytes → Bytes
refused_words trees.TooDeep path = with_path (codes "too-deep") path
refused_words trees.BadName path = with_path (codes "bad-name") path
refused_words (trees.Commit refusal) path = commit_words refusal path

-- why no tree was read; one that was read is no cause
abbrev pub cause_words : Reading → Bytes
cause_words (Failed path) = codes "unreadable" ++ 32 ∷ path
cause_words (Refused fault path) = refused_words fault path
cause_words (Found tree) = []

-- the first cycle of a generation and what is fetched again for it, or a cycle before which no tree was read
abbrev pub notice_line : Notice → Bytes
notice_line (Began number cycle difference) = cycle_line (codes "generation") number cycle (difference_words difference)
notice_line (Kept number cycle reading) = cycle_line (codes "kept") number cycle (cause_words reading)
