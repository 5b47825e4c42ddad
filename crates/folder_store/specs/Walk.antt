-- The edits that make a folder's tree, by name order.
use Rattle.std.specs.Prelude.{◌≡◌, ◌≢◌, ◌≤◌, ◌↔◌, ℕ, ◌⊎◌, Bool, true, false, not, ◌&&◌, zero, suc, ◌+◌, List, [], ◌∷◌, ◌++◌, length, take, Some, Result, Ok, Err, nat_lt, if◌then◌else◌, Contains}
use Rattle.std.specs.List.{All, AllPairs, flat_map, fold, list_any, sum_by}
use Rattle.std.specs.declared.cmp.Ordering.TheVariants.{Less}
use Rattle.std.specs.BTreeMap.{insert_entry}
use Rattle.path_tree.specs.Paths.{Bytes, PathNames, IsPath, name_cmp, path_cmp}
use Rattle.path_tree.specs.Edits.{apply_all}
use Rattle.path_tree.specs.Texts.{is_name}
use Rattle.path_tree.specs.Trees.{Tree, content_at}
use Rattle.path_tree.specs.Trees as trees
use Rattle.path_tree.specs.declared.entry.Entry.TheVariants as kept
use Rattle.path_tree.specs.declared.tree.Edit.{Edit}
use Rattle.path_tree.specs.declared.tree.Edit.TheVariants.{Put, Remove, MakeFolder, RemoveFolder}
use Rattle.folder_store.specs.Folders.{Entry, AFile, AFolder, AnOther, FolderTree, IsFolderTree, content_of, entries_below, entry_at, is_folder_at}
use Rattle.path_tree.specs.declared.text.TheConstants.{MOST_NAMES}
use Rattle.generation_catalogue.specs.declared.journal.TheConstants.{MOST_PUT_BYTES}
use Rattle.folder_store.specs.declared.reading.TheConstants.{MOST_READ}

pub data WalkFault : Type 0 where
  IsTooDeep : WalkFault
  IsBadName : WalkFault

abbrev pub sort_entries : List (Bytes × Entry) → List (Bytes × Entry)
sort_entries entries = fold (λ es e. insert_entry name_cmp es e.0 e.1) [] entries

-- what the walk meets: a file, or a folder in which neither a file nor a folder stands, as its edit, or an entry that
-- breaks a rule
abbrev pub Met : Type 0
Met = Result Edit WalkFault

-- what is met at an entry of a folder whose path has sixteen names
abbrev pub met_past : Bytes × Entry → List Met
met_past (name, AnOther) = []
met_past (name, AFile content) = Err IsTooDeep ∷ []
met_past (name, AFolder) = Err IsTooDeep ∷ []

-- what is met at a folder, where this is met below it
abbrev pub met_or_made : PathNames → List Met → List Met
met_or_made path [] = Ok (MakeFolder path) ∷ []
met_or_made path (m ∷ met) = m ∷ met

-- what is met at an entry of any other folder, whose path and text are given, where `deeper` is what is met below a folder
abbrev pub met_at : (PathNames → Bytes → List Met) → PathNames → Bytes → Bytes × Entry → List Met
met_at deeper path text (name, AnOther) = []
met_at deeper path text (name, AFile content) =
    if is_name name then Ok (Put (path ++ name ∷ []) (take MOST_READ content)) ∷ [] else Err IsBadName ∷ []
met_at deeper path text (name, AFolder) =
    if is_name name then met_or_made (path ++ name ∷ []) (deeper (path ++ name ∷ []) (text ++ 47 ∷ name)) else Err IsBadName ∷ []

-- all that the walk can meet below a folder whose path leaves room for so many names more: by name order, a folder's
-- content at its place
unfoldable pub met_below : FolderTree → ℕ → PathNames → Bytes → List Met
met_below t zero path text = flat_map met_past (sort_entries (entries_below t text))
met_below t (suc room) path text = flat_map (met_at (met_below t room) path text) (sort_entries (entries_below t text))

abbrev pub size : Edit → ℕ
size (Put path content) = length content
size (Remove path) = 0
size (MakeFolder path) = 0
size (RemoveFolder path) = 0

abbrev pub Walked : Type 0
Walked = Result (List Edit) WalkFault

abbrev pub onto : Edit → Walked → Walked
onto e (Ok edits) = Ok (e ∷ edits)
onto e (Err fault) = Err fault

-- The edits of what is met, n bytes being read before. The walk ends where more bytes than the limit are
-- read, or at the first entry that breaks a rule.
abbrev pub walk_edits : ℕ → List Met → Walked
walk_edits n [] = Ok []
walk_edits n (Err fault ∷ met) = if nat_lt MOST_PUT_BYTES n then Ok [] else Err fault
walk_edits n (Ok e ∷ met) = if nat_lt MOST_PUT_BYTES n then Ok [] else onto e (walk_edits (n + size e) met)

-- the edits of a folder, or the first entry in walk order that breaks a rule
abbrev pub edits_of : FolderTree → Bytes → Walked
edits_of t root = walk_edits 0 (met_below t MOST_NAMES [] root)

-- ---- the edits as the folder's files and bare folders

-- the text of a path below a folder
abbrev pub text_below : Bytes → PathNames → Bytes
text_below root path = root ++ flat_map (λ name. 47 ∷ name) path

abbrev pub counts : Entry → Bool
counts (AFile content) = true
counts AFolder = true
counts AnOther = false

-- a folder in which neither a file nor a folder stands
abbrev pub is_bare_folder : FolderTree → Bytes → Bool
is_bare_folder t text = is_folder_at t text && not (list_any (λ e. counts e.1) (entries_below t text))

-- the edit puts a file below the folder, with so many bytes as are read of it
pub record PutsFile (t : FolderTree) (root : Bytes) (e : Edit) : Type 0 where
  pub path : PathNames
  pub content : Bytes
  pub form : e ≡ Put path (take MOST_READ content)
  pub file : content_of (entry_at t (text_below root path)) ≡ Some content

-- the edit makes a folder below the folder, in which neither a file nor a folder stands
pub record MakesFolder (t : FolderTree) (root : Bytes) (e : Edit) : Type 0 where
  pub path : PathNames
  pub form : e ≡ MakeFolder path
  pub below : path ≢ []
  pub bare : is_bare_folder t (text_below root path) ≡ true

abbrev pub path_in : Edit → PathNames
path_in (Put path content) = path
path_in (Remove path) = path
path_in (MakeFolder path) = path
path_in (RemoveFolder path) = path

-- one edit for each file below the folder, and for each folder below it in which neither a file nor a folder stands, in path
-- order; each of them has its edit unless too many bytes were read
pub record PutsFiles (t : FolderTree) (root : Bytes) (edits : List Edit) : Type 0 where
  pub in_order : AllPairs (λ e f. path_cmp (path_in e) (path_in f) ≡ Less) edits
  pub each_is : All (λ e. PutsFile t root e ⊎ MakesFolder t root e) edits
  pub each : sum_by size edits ≤ MOST_PUT_BYTES → (path : PathNames) (content : Bytes) → IsPath path → path ≢ []
      → content_of (entry_at t (text_below root path)) ≡ Some content → Contains edits (Put path (take MOST_READ content))
  pub each_bare : sum_by size edits ≤ MOST_PUT_BYTES → (path : PathNames) → IsPath path → path ≢ []
      → is_bare_folder t (text_below root path) ≡ true → Contains edits (MakeFolder path)

-- the tree has a file of these bytes at a path exactly where the folder has it at the path's text, and keeps a folder
-- exactly where a folder is there in which neither a file nor a folder stands
pub record HasFiles (t : FolderTree) (root : Bytes) (tree : Tree) : Type 0 where
  pub files : (path : PathNames) (content : Bytes) → IsPath path → path ≢ []
      → (content_at tree path ≡ Some content) ↔ (content_of (entry_at t (text_below root path)) ≡ Some content)
  pub folders : (path : PathNames) → IsPath path → path ≢ []
      → (trees.entry_at tree path ≡ Some kept.Folder) ↔ (is_bare_folder t (text_below root path) ≡ true)

-- the edits of a folder, applied to the tree in which nothing is, make the tree of its files and bare folders
abbrev pub EditsMakeTheFiles : Type 0
EditsMakeTheFiles = (t : FolderTree) (root : Bytes) (edits : List Edit) (tree : Tree)
    → IsFolderTree t → edits_of t root ≡ Ok edits → sum_by size edits ≤ MOST_PUT_BYTES → apply_all [] edits ≡ Ok tree → HasFiles t root tree
