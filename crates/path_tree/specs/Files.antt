-- Trees of files alone, and lists of puts and removals over them: what trees and edits were before a folder could be kept.
-- They are here to be held beside the trees of today.
use Rattle.std.specs.Prelude.{◌≡◌, ℕ, suc, Bool, true, List, [], ◌∷◌, length, map, Option, Some, None, Result, Ok, Err, is_some, nat_lt, if◌then◌else◌}
use Rattle.std.specs.List.{list_any, filter_map, dedup}
use Rattle.std.specs.BTreeMap.{insert_entry}
use Rattle.std.specs.Map.{lookup, remove_entry}
use Rattle.path_tree.specs.Paths.{Bytes, PathNames, path_cmp, same_path, same_name, is_below, next_name}
use Rattle.path_tree.specs.Trees.{Tree, Node, File, Folder, NoSuch}
use Rattle.path_tree.specs.Trees as trees
use Rattle.path_tree.specs.Edits as edits
use Rattle.path_tree.specs.declared.entry.Entry.{Entry}
use Rattle.path_tree.specs.declared.entry.Entry.TheVariants as entries
use Rattle.path_tree.specs.declared.tree.TheConstants.{MOST_CONTENT}
use Rattle.path_tree.specs.declared.tree.Edit.{Edit}
use Rattle.path_tree.specs.declared.tree.Edit.TheVariants as all_edits
use Rattle.path_tree.specs.declared.tree.EditFault.{EditFault}
use Rattle.path_tree.specs.declared.tree.EditFault.TheVariants.{NoSuchFile, FolderThere, ThroughFile, FileTooLarge}

-- a finite map from paths to bytes: its files in the order of paths
abbrev pub FileTree : Type 0
FileTree = List (PathNames × Bytes)

abbrev pub content_at : FileTree → PathNames → Option Bytes
content_at t p = lookup (same_path p) t

-- the root, and each proper prefix of a file's path
abbrev pub is_folder : FileTree → PathNames → Bool
is_folder t [] = true
is_folder t (n ∷ ns) = list_any (λ e. is_below (n ∷ ns) e.0) t

-- a file stands at a proper prefix of the path
abbrev pub is_through_file : FileTree → PathNames → Bool
is_through_file t p = list_any (λ e. is_below e.0 p) t

abbrev pub names_below : FileTree → PathNames → List Bytes
names_below t p = dedup same_name (filter_map (λ e. next_name p e.0) t)

abbrev pub node_at : FileTree → PathNames → Node
node_at t p = go (content_at t p) where
  go : Option Bytes → Node
  go (Some b) = File b
  go None = if is_folder t p then Folder (names_below t p) else NoSuch

pub data FileEdit : Type 0 where
  Put : PathNames → Bytes → FileEdit
  Remove : PathNames → FileEdit

abbrev pub fault_of : FileTree → FileEdit → Option EditFault
fault_of t (Put p b) =
    if is_folder t p then Some FolderThere
    else (if is_through_file t p then Some ThroughFile
    else (if nat_lt MOST_CONTENT (length b) then Some FileTooLarge else None))
fault_of t (Remove p) = if is_some (content_at t p) then None else Some NoSuchFile

abbrev pub after_edit : FileTree → FileEdit → FileTree
after_edit t (Put p b) = insert_entry path_cmp t p b
after_edit t (Remove p) = remove_entry (same_path p) t

abbrev pub unless : ℕ → Option EditFault → Result FileTree (ℕ × EditFault) → Result FileTree (ℕ × EditFault)
unless at (Some fault) rest = Err (at, fault)
unless at None rest = rest

abbrev pub apply_from : ℕ → FileTree → List FileEdit → Result FileTree (ℕ × EditFault)
apply_from at t [] = Ok t
apply_from at t (e ∷ es) = unless at (fault_of t e) (apply_from (suc at) (after_edit t e) es)

abbrev pub apply_all : FileTree → List FileEdit → Result FileTree (ℕ × EditFault)
apply_all t es = apply_from 0 t es

-- ---- the same files as a tree of today

abbrev pub filed : PathNames × Bytes → PathNames × Entry
filed e = (e.0, entries.File e.1)

abbrev pub of_files : FileTree → Tree
of_files t = map filed t

abbrev pub as_edit : FileEdit → Edit
as_edit (Put p b) = all_edits.Put p b
as_edit (Remove p) = all_edits.Remove p

abbrev pub as_answer : Result FileTree (ℕ × EditFault) → Result Tree (ℕ × EditFault)
as_answer (Ok t) = Ok (of_files t)
as_answer (Err f) = Err f

-- The law on lists of puts and removals: over a tree of files alone they give the tree, or the place and the fault, that
-- they gave where trees had files alone.
abbrev pub FilesStayTheSame : Type 0
FilesStayTheSame = (t : FileTree) (es : List FileEdit) → edits.apply_all (of_files t) (map as_edit es) ≡ as_answer (apply_all t es)

-- and a look-up answers what it answered
abbrev pub LookupsStayTheSame : Type 0
LookupsStayTheSame = (t : FileTree) (p : PathNames) → trees.node_at (of_files t) p ≡ node_at t p
