-- What is written into folders of the outside: the tree that stands there, and what one call adds to it.
use Rattle.std.specs.Prelude.{Bool, false, not, ◌&&◌, ◌||◌, List, [], ◌∷◌, ◌++◌, map, Option, Some, None, is_some}
use Rattle.std.specs.List.{list_any}
use Rattle.std.specs.String.{string_bytes}
use Rattle.std.specs.declared.string.String.{String}
use Rattle.path_tree.specs.Paths.{Bytes}
use Rattle.folder_store.specs.Folders.{Entry, AFile, AFolder, AnOther, FolderTree, after_prefix, entry_at, is_name_text}
use Rattle.folder_store.specs.declared.mem_store.Stood.{Stood}
use Rattle.folder_store.specs.declared.mem_store.Stood.TheVariants as stood

-- ---- where something may be written

abbrev pub is_name_rest : Option Bytes → Bool
is_name_rest (Some name) = is_name_text name
is_name_rest None = false

-- the entry is the folder right above a path
abbrev pub is_parent : Bytes → Bytes × Entry → Bool
is_parent path (text, AFolder) = is_name_rest (after_prefix (text ++ 47 ∷ []) path)
is_parent path (text, AFile content) = false
is_parent path (text, AnOther) = false

-- the folder right above a path is there; the one above a single name always is
abbrev pub has_parent : FolderTree → Bytes → Bool
has_parent t path = is_name_text path || list_any (is_parent path) t

-- something stands under a path
abbrev pub is_there : FolderTree → Bytes → Bool
is_there t path = is_some (entry_at t path)

-- nothing stands under the path, and the folder right above it is there
abbrev pub can_add : FolderTree → Bytes → Bool
can_add t path = not (is_there t path) && has_parent t path

-- ---- what is added

-- a tree, where it is told, with entries after those that stood there
abbrev pub with_entries : Option FolderTree → FolderTree → Option FolderTree
with_entries (Some t) entries = Some (t ++ entries)
with_entries None entries = None

-- ---- a store in memory

abbrev pub view_stood : Stood → Entry
view_stood (stood.File content) = AFile content
view_stood stood.Folder = AFolder

-- its tree: what was written, in order
abbrev pub tree_stored : {Z : Type 0} → List (String Z × Stood) → FolderTree
tree_stored entries = map (λ e. (string_bytes e.0, view_stood e.1)) entries
