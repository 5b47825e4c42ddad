-- A walk on its way: what it came by beside the files.
use Rattle.std.specs.Prelude.{◌≡◌, ℕ, zero, suc, List, ◌++◌, map, false, nat_lt, Result, Ok, Err, ⊤, MatchOption, if◌then◌else◌}
use Rattle.std.specs.Option.{option_map}
use Rattle.std.specs.String.{string_bytes}
use Rattle.path_tree.specs.Paths.{Bytes, PathNames}
use Rattle.path_tree.specs.declared.tree.TheConstants.{MOST_CONTENT}
use Rattle.generation_catalogue.specs.declared.journal.TheConstants.{MOST_PUT_BYTES}
use Rattle.folder_store.specs.Folders.{Entry, FolderTree}
use Rattle.folder_store.specs.Inner.Gathering.{broken_rule}
use Rattle.folder_store.specs.Surveys.{Stands, Mark, Look, view_standing, marks_past, marks_at, marks_below, look_from, first_of}
use Rattle.folder_store.specs.declared.reading.ReadTree.{ReadTree}
use Rattle.folder_store.specs.declared.sights.Sights.{Sights}

abbrev pub look_in : Sights → Look
look_in s = record { left = map view_standing s.left.items; large = option_map string_bytes s.large }

-- a file more, with its path text, of which so many bytes were read
abbrev pub with_file : Look → Bytes → ℕ → Look
with_file k text read = if nat_lt MOST_CONTENT read then record k { large = first_of k.large text } else k

-- at one entry of a folder whose path leaves room for so many names more
abbrev pub marks_one : FolderTree → ℕ → PathNames → Bytes → Bytes × Entry → List Mark
marks_one t zero path text e = marks_past path e
marks_one t (suc room) path text e = marks_at (marks_below t room) path text e

-- no more bytes were read than the limit
abbrev pub HasRoom : ℕ → Type 0
HasRoom read = nat_lt MOST_PUT_BYTES read ≡ false

-- A walk that came by all this after so many bytes. Where the limit isn't passed in the end, it wasn't before, and what is told is told
-- whatever comes from then on. Or what it came to last breaks a rule.
abbrev pub Tells : List Mark → Look → ℕ → Result (Unit {0}) ReadTree → Look → ℕ → Stands → Type 0
Tells marks k n (Ok u) l m at = HasRoom m → HasRoom n × ((rest : List Mark) → look_from k (marks ++ rest) ≡ look_from l rest)
Tells marks k n (Err e) l m at = MatchOption (broken_rule e) ⊤ (λ _. HasRoom n × ((rest : List Mark) → look_from k (marks ++ rest) ≡ Err at))
