-- A tree is a finite map from paths to entries: its entries in the order of paths. An entry is a file with its bytes, or
-- a folder that is kept, whether or not something stands in it.
use Rattle.std.specs.Prelude.{◌≡◌, ◌≤◌, ◌≢◌, ℕ, get_or, Bool, true, false, ◌||◌, ◌&&◌, List, [], ◌∷◌, length, Option, Some, None, if◌then◌else◌}
use Rattle.std.specs.List.{All, AllPairs, Any, Contains, list_any, filter_map, dedup}
use Rattle.std.specs.Map.{lookup}
use Rattle.std.specs.declared.cmp.Ordering.TheVariants.{Less}
use Rattle.oc_bytes.specs.Numbers.{IsBytes}
use Rattle.path_tree.specs.Paths.{Bytes, PathNames, name_cmp, path_cmp, is_below, next_name, same_name, same_path, IsPath}
use Rattle.path_tree.specs.declared.entry.Entry.{Entry}
use Rattle.path_tree.specs.declared.entry.Entry.TheVariants as entries
use Rattle.path_tree.specs.declared.tree.TheConstants.{MOST_CONTENT}

abbrev pub Tree : Type 0
Tree = List (PathNames × Entry)

abbrev pub is_a_file : Entry → Bool
is_a_file (entries.File b) = true
is_a_file entries.Folder = false

-- what the path maps to
abbrev pub entry_at : Tree → PathNames → Option Entry
entry_at t p = lookup (same_path p) t

abbrev pub file_in : Option Entry → Option Bytes
file_in (Some (entries.File b)) = Some b
file_in (Some entries.Folder) = None
file_in None = None

-- the bytes of the file that stands at the path
abbrev pub content_at : Tree → PathNames → Option Bytes
content_at t p = file_in (entry_at t p)

abbrev pub is_kept : Option Entry → Bool
is_kept (Some (entries.File b)) = false
is_kept (Some entries.Folder) = true
is_kept None = false

-- Nothing lies below a file; below a kept folder all may.
abbrev pub IsApart : Entry → Bool → Type 0
IsApart (entries.File b) below = below ≡ false
IsApart entries.Folder below = Unit {0}

abbrev pub HasContent : Entry → Type 0
HasContent (entries.File b) = IsBytes b
HasContent entries.Folder = Unit {0}

abbrev pub Fits : Entry → Type 0
Fits (entries.File b) = length b ≤ MOST_CONTENT
Fits entries.Folder = Unit {0}

pub record IsTree (t : Tree) : Type 0 where
  pub paths : All (λ e. IsPath e.0 × (e.0 ≢ [])) t
  pub in_order : AllPairs (λ e f. path_cmp e.0 f.0 ≡ Less) t
  pub apart : AllPairs (λ e f. IsApart e.1 (is_below e.0 f.0)) t
  pub contents : All (λ e. HasContent e.1) t
  pub sizes : All (λ e. Fits e.1) t

-- the path is a proper prefix of a path of the tree
abbrev pub leads_on : Tree → PathNames → Bool
leads_on t p = list_any (λ e. is_below p e.0) t

-- the root, each kept folder, and each proper prefix of a path of the tree
abbrev pub is_folder : Tree → PathNames → Bool
is_folder t [] = true
is_folder t (n ∷ ns) = is_kept (entry_at t (n ∷ ns)) || leads_on t (n ∷ ns)

-- a proper prefix of the path maps to a file
abbrev pub is_through_file : Tree → PathNames → Bool
is_through_file t p = list_any (λ e. is_a_file e.1 && is_below e.0 p) t

-- the next names below p of the entries that lie below it, one for each
abbrev pub next_names : Tree → PathNames → List Bytes
next_names t p = filter_map (λ e. next_name p e.0) t

-- the next names below p, each once, in byte order: alike ones stand side by side
abbrev pub names_below : Tree → PathNames → List Bytes
names_below t p = dedup same_name (next_names t p)

-- A folder's listing: the next names below it, each once, in byte order.
pub record IsListing (t : Tree) (p : PathNames) (names : List Bytes) : Type 0 where
  pub in_order : AllPairs (λ m n. name_cmp m n ≡ Less) names
  pub only : (n : Bytes) → Contains names n → Any (λ e. next_name p e.0 ≡ Some n) t
  pub every : (n : Bytes) → Any (λ e. next_name p e.0 ≡ Some n) t → Contains names n

-- what stands at a path
pub data Node : Type 0 where
  File : Bytes → Node
  Folder : List Bytes → Node
  NoSuch : Node

abbrev pub node_at : Tree → PathNames → Node
node_at t p = go (content_at t p) where
  go : Option Bytes → Node
  go (Some b) = File b
  go None = if is_folder t p then Folder (names_below t p) else NoSuch

abbrev pub IfFolder : Node → (List Bytes → Type 0) → Type 0
IfFolder (File b) P = Unit {0}
IfFolder (Folder names) P = P names
IfFolder NoSuch P = Unit {0}

-- ---- the files and the kept folders by themselves

abbrev pub as_file : PathNames × Entry → Option (PathNames × Bytes)
as_file (p, entries.File b) = Some (p, b)
as_file (p, entries.Folder) = None

abbrev pub as_folder : PathNames × Entry → Option PathNames
as_folder (p, entries.File b) = None
as_folder (p, entries.Folder) = Some p

-- a tree's files with their paths, and its kept folders, each in the order of paths
abbrev pub files_in : Tree → List (PathNames × Bytes)
files_in t = filter_map as_file t

abbrev pub made_in : Tree → List PathNames
made_in t = filter_map as_folder t

-- ---- an entry by its number, and its path and bytes

abbrev pub content_in : Entry → Bytes
content_in (entries.File b) = b
content_in entries.Folder = []

abbrev pub item_at : Tree → ℕ → PathNames × Entry
item_at t i = get_or t i ([], entries.Folder)

abbrev pub path_at : Tree → ℕ → PathNames
path_at t i = (item_at t i).0

-- a kept folder has none
abbrev pub bytes_at : Tree → ℕ → Bytes
bytes_at t i = content_in (item_at t i).1

abbrev pub is_file_at : Tree → ℕ → Bool
is_file_at t i = is_a_file (item_at t i).1
