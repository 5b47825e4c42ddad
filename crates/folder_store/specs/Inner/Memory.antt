-- What stands right below a folder, by what follows the folder's text and a slash in an entry's text.
use Rattle.std.specs.Prelude.{ℕ, Bool, ◌==◌, List, [], ◌∷◌, ◌++◌, Option, Some, None, if◌then◌else◌}
use Rattle.std.specs.List.{filter_map, fold, list_any, before_first}
use Rattle.std.specs.Option.{option_map}
use Rattle.path_tree.specs.Paths.{Bytes, same_name}
use Rattle.folder_store.specs.Folders.{after_prefix, is_name_text}
use Rattle.folder_store.specs.declared.folders.EntryKind.{EntryKind}
use Rattle.folder_store.specs.declared.folders.EntryKind.TheVariants as kinds
use Rattle.folder_store.specs.Memory.{ends_in_slash}

abbrev pub is_slash : ℕ → Bool
is_slash b = b == 47

abbrev pub file_name : Option Bytes → Option Bytes
file_name None = None
file_name (Some rest) = if is_name_text rest then Some rest else None

abbrev pub folder_name : Option Bytes → Option Bytes
folder_name None = None
folder_name (Some rest) = if is_name_text rest then None else Some (before_first is_slash rest)

-- the files right below a folder, as a listing shows them
abbrev pub files_below : Bytes → List (Bytes × Bytes) → List (Bytes × EntryKind)
files_below path entries = filter_map (λ e. option_map (λ name. (name, kinds.File)) (if ends_in_slash e.0 then None else file_name (after_prefix (path ++ 47 ∷ []) e.0))) entries

abbrev pub with_folder : List (Bytes × EntryKind) → Bytes → List (Bytes × EntryKind)
with_folder listed name = if list_any (λ e. same_name e.0 name) listed then listed else listed ++ (name, kinds.Folder) ∷ []

abbrev pub with_folder_of : List (Bytes × EntryKind) → Option Bytes → List (Bytes × EntryKind)
with_folder_of listed None = listed
with_folder_of listed (Some name) = with_folder listed name

-- the folders right below a folder, each once
abbrev pub folders_below : Bytes → List (Bytes × Bytes) → List (Bytes × EntryKind)
folders_below path entries = fold (λ listed e. with_folder_of listed (folder_name (after_prefix (path ++ 47 ∷ []) e.0))) [] entries
