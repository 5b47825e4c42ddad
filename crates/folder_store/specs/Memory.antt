-- A tree in memory, by its entries: a file under its whole path text, and a folder under one that ends in a slash.
use Rattle.std.specs.Prelude.{◌-◌, Bool, true, not, ◌==◌, ◌&&◌, IsTrue, List, [], ◌∷◌, ◌++◌, length, slice_index, map, if◌then◌else◌}
use Rattle.std.specs.List.{flat_map, filter, fold, list_any}
use Rattle.std.specs.String.{string_bytes}
use Rattle.std.specs.declared.string.String.{String}
use Rattle.path_tree.specs.Paths.{Bytes, same_name}
use Rattle.folder_store.specs.Folders.{FolderTree, AFile, AFolder}

-- an entry's text, with a file's bytes
abbrev pub entries_in : {Z : Type 0} → List (String Z × Bytes) → List (Bytes × Bytes)
entries_in entries = map (λ e. (string_bytes e.0, e.1)) entries

-- the texts of the folders in which a text stands: what is before each of its slashes
abbrev pub folders_above : Bytes → List Bytes
folders_above [] = []
folders_above (c ∷ cs) = (if c == 47 then [] ∷ [] else []) ++ map (λ front. c ∷ front) (folders_above cs)

abbrev pub ends_in_slash : Bytes → Bool
ends_in_slash text = slice_index text (length text - 1) == 47

abbrev pub has_text : List Bytes → Bytes → Bool
has_text texts text = list_any (λ other. same_name other text) texts

abbrev pub with_text : List Bytes → Bytes → List Bytes
with_text texts text = if has_text texts text then texts else texts ++ text ∷ []

-- each text where it stands first
abbrev pub each_once : List Bytes → List Bytes
each_once texts = fold with_text [] texts

-- the files, and each folder that an entry names or stands in
abbrev pub tree_of : List (Bytes × Bytes) → FolderTree
tree_of entries =
    map (λ e. (e.0, AFile e.1)) (filter (λ e. not (ends_in_slash e.0)) entries)
    ++ map (λ text. (text, AFolder)) (each_once (flat_map (λ e. folders_above e.0) entries))

-- no text stands twice
abbrev pub all_apart : {X : Type 0} → List (Bytes × X) → Bool
all_apart [] = true
all_apart (e ∷ es) = not (list_any (λ f. same_name f.0 e.0) es) && all_apart es

-- The entries form a tree: no two files have one text, and no file's text is a folder's too. A folder
-- may be named and stood in more than once.
abbrev pub AreEntries : List (Bytes × Bytes) → Type 0
AreEntries entries = IsTrue (all_apart (tree_of entries))
