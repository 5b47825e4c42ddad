-- What a survey of a folder tells beside the edits: what the walk passes over, and where it is refused.
use Rattle.std.specs.Prelude.{ℕ, zero, suc, List, [], ◌∷◌, ◌++◌, length, take, map, nat_lt, Option, Some, None, Result, Ok, Err, if◌then◌else◌}
use Rattle.std.specs.List.{flat_map}
use Rattle.std.specs.Option.{option_map}
use Rattle.std.specs.String.{string_bytes}
use Rattle.path_tree.specs.Paths.{Bytes, PathNames}
use Rattle.path_tree.specs.Texts.{is_name}
use Rattle.path_tree.specs.declared.text.TheConstants.{MOST_NAMES}
use Rattle.path_tree.specs.declared.tree.Edit.{Edit}
use Rattle.path_tree.specs.declared.tree.Edit.TheVariants.{Put, Remove, MakeFolder, RemoveFolder}
use Rattle.path_tree.specs.declared.tree.TheConstants.{MOST_CONTENT}
use Rattle.folder_store.specs.Folders.{Entry, AFile, AFolder, AnOther, FolderTree, entries_below}
use Rattle.folder_store.specs.Walk.{sort_entries, text_below}
use Rattle.folder_store.specs.declared.reading.TheConstants.{MOST_READ}
use Rattle.folder_store.specs.declared.sights.Standing.{Standing}
use Rattle.folder_store.specs.declared.surveying.Surveyed.{Surveyed}

-- the path of a folder, and a name in it, which may be none of a path
abbrev pub Stands : Type 0
Stands = PathNames × Bytes

abbrev pub view_standing : Standing → Stands
view_standing s = (s.folder, string_bytes s.name)

-- the entry that was come to last; none is the folder itself that is read, which no entry is
abbrev pub at_in : Option Standing → Stands
at_in (Some s) = view_standing s
at_in None = ([], [])

-- its names, the outermost first
abbrev pub names_at : Stands → PathNames
names_at s = s.0 ++ s.1 ∷ []

-- the names that lead to it from the folder that is read; none lead to that folder itself
abbrev pub names_to : Option Standing → PathNames
names_to (Some s) = names_at (view_standing s)
names_to None = []

-- its path text
abbrev pub text_at : (root : Bytes) → Option Standing → Bytes
text_at root at = text_below root (names_to at)

-- the path text of the first file that these edits put with more bytes than one of a carousel has
abbrev pub first_large : (root : Bytes) → List Edit → Option Bytes
first_large root [] = None
first_large root (Put path content ∷ edits) = if nat_lt MOST_CONTENT (length content) then Some (text_below root path) else first_large root edits
first_large root (Remove path ∷ edits) = first_large root edits
first_large root (MakeFolder path ∷ edits) = first_large root edits
first_large root (RemoveFolder path ∷ edits) = first_large root edits

-- what the walk comes by: an entry that it passes over, one that breaks a rule, or a file, by its path text, that has more bytes than
-- one of a carousel
pub data Mark : Type 0 where
  Left : Stands → Mark
  Broken : Stands → Mark
  Large : Bytes → Mark

abbrev pub large_mark : (text : Bytes) (read : ℕ) → List Mark
large_mark text read = if nat_lt MOST_CONTENT read then Large text ∷ [] else []

-- at an entry of a folder whose path has sixteen names
abbrev pub marks_past : PathNames → Bytes × Entry → List Mark
marks_past path (name, AnOther) = Left (path, name) ∷ []
marks_past path (name, AFile content) = Broken (path, name) ∷ []
marks_past path (name, AFolder) = Broken (path, name) ∷ []

-- at an entry of any other folder, whose path and text are given, where `deeper` is what the walk comes by below a folder
abbrev pub marks_at : (PathNames → Bytes → List Mark) → PathNames → Bytes → Bytes × Entry → List Mark
marks_at deeper path text (name, AnOther) = Left (path, name) ∷ []
marks_at deeper path text (name, AFile content) =
    if is_name name then large_mark (text ++ 47 ∷ name) (length (take MOST_READ content)) else Broken (path, name) ∷ []
marks_at deeper path text (name, AFolder) =
    if is_name name then deeper (path ++ name ∷ []) (text ++ 47 ∷ name) else Broken (path, name) ∷ []

-- all below a folder whose path leaves room for so many names more, in the order of the walk
unfoldable pub marks_below : FolderTree → ℕ → PathNames → Bytes → List Mark
marks_below t zero path text = flat_map (marks_past path) (sort_entries (entries_below t text))
marks_below t (suc room) path text = flat_map (marks_at (marks_below t room) path text) (sort_entries (entries_below t text))

-- what was passed over, in the order of the walk, and the path text of the first file that is too large
pub record Look : Type 0 where
  pub left : List Stands
  pub large : Option Bytes

abbrev pub view_survey : Surveyed → Look
view_survey s = record { left = map view_standing s.left.items; large = option_map string_bytes s.large }

abbrev pub first_of : Option Bytes → Bytes → Option Bytes
first_of (Some text) other = Some text
first_of None other = Some other

-- the marks after others, up to the first entry that breaks a rule
abbrev pub look_from : Look → List Mark → Result Look Stands
look_from k [] = Ok k
look_from k (Left s ∷ marks) = look_from (record k { left = k.left ++ s ∷ [] }) marks
look_from k (Broken s ∷ marks) = Err s
look_from k (Large text ∷ marks) = look_from (record k { large = first_of k.large text }) marks

-- of a whole folder: what was passed over, or the first entry in the order of the walk that breaks a rule
abbrev pub survey_of : FolderTree → Bytes → Result Look Stands
survey_of t root = look_from (record { left = []; large = None }) (marks_below t MOST_NAMES [] root)
