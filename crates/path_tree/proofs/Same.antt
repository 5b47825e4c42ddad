-- Lists of puts and removals over trees of files.
use Rattle.std.proofs.Common.{◌≡◌, ℕ, suc, Bool, true, false, ◌||◌, List, [], ◌∷◌, map, Option, Some, None, cond, refl, ◌∙◌, ap}
use Rattle.std.specs.Ordering.{match_ordering}
use Rattle.std.specs.declared.cmp.Ordering.{Ordering}
use Rattle.std.specs.declared.cmp.Ordering.TheVariants.{Less, Equal, Greater}
use Rattle.std.specs.List.{list_any, filter_map, cons_option, dedup}
use Rattle.std.specs.Map.{remove_entry}
use Rattle.std.specs.BTreeMap.{insert_entry}
use Rattle.std.specs.Option.{option_map}
use Rattle.path_tree.specs.Paths.{Bytes, PathNames, path_cmp, same_path, same_name, is_below, next_name}
use Rattle.path_tree.specs.Trees.{Node, File, Folder, NoSuch, entry_at, content_at, file_in, is_kept, is_folder, is_through_file, leads_on, next_names, names_below, node_at}
use Rattle.path_tree.specs.Edits.{fault_of, after_edit, unless, apply_from}
use Rattle.path_tree.specs.Files.{FileTree, FileEdit, of_files, as_edit, as_answer, FilesStayTheSame}
use Rattle.path_tree.specs.Files as files
use Rattle.path_tree.specs.declared.entry.Entry.TheVariants as entries
use Rattle.path_tree.specs.declared.tree.EditFault.{EditFault}

entry_there : (t : FileTree) (p : PathNames) → entry_at (of_files t) p ≡ option_map entries.File (files.content_at t p)
entry_there [] p = refl
entry_there (e ∷ es) p = go (same_path p e.0) (entry_there es p) where
  go : (b : Bool) → entry_at (of_files es) p ≡ option_map entries.File (files.content_at es p) → cond b (Some (entries.File e.1)) (entry_at (of_files es) p) ≡ option_map entries.File (cond b (Some e.1) (files.content_at es p))
  go true rest = refl
  go false rest = rest

content_there : (t : FileTree) (p : PathNames) → content_at (of_files t) p ≡ files.content_at t p
content_there t p = ap file_in (entry_there t p) ∙ go (files.content_at t p) where
  go : (b : Option Bytes) → file_in (option_map entries.File b) ≡ b
  go (Some b) = refl
  go None = refl

none_kept : (t : FileTree) (p : PathNames) → is_kept (entry_at (of_files t) p) ≡ false
none_kept t p = ap is_kept (entry_there t p) ∙ go (files.content_at t p) where
  go : (b : Option Bytes) → is_kept (option_map entries.File b) ≡ false
  go (Some b) = refl
  go None = refl

leads_same : (t : FileTree) (p : PathNames) → leads_on (of_files t) p ≡ list_any (λ e. is_below p e.0) t
leads_same [] p = refl
leads_same (e ∷ es) p = ap (λ b. is_below p e.0 || b) (leads_same es p)

through_same : (t : FileTree) (p : PathNames) → is_through_file (of_files t) p ≡ files.is_through_file t p
through_same [] p = refl
through_same (e ∷ es) p = ap (λ b. is_below e.0 p || b) (through_same es p)

folder_same : (t : FileTree) (p : PathNames) → is_folder (of_files t) p ≡ files.is_folder t p
folder_same t [] = refl
folder_same t (n ∷ ns) = ap (λ b. b || leads_on (of_files t) (n ∷ ns)) (none_kept t (n ∷ ns)) ∙ leads_same t (n ∷ ns)

insert_same : (t : FileTree) (p : PathNames) (b : Bytes) → insert_entry path_cmp (of_files t) p (entries.File b) ≡ of_files (insert_entry path_cmp t p b)
insert_same [] p b = refl
insert_same (e ∷ es) p b = go (path_cmp p e.0) (insert_same es p b) where
  go : (o : Ordering) → insert_entry path_cmp (of_files es) p (entries.File b) ≡ of_files (insert_entry path_cmp es p b)
      → match_ordering o ((p, entries.File b) ∷ of_files (e ∷ es)) ((e.0, entries.File b) ∷ of_files es) ((e.0, entries.File e.1) ∷ insert_entry path_cmp (of_files es) p (entries.File b))
      ≡ of_files (match_ordering o ((p, b) ∷ e ∷ es) ((e.0, b) ∷ es) (e ∷ insert_entry path_cmp es p b))
  go Less rest = refl
  go Equal rest = refl
  go Greater rest = ap (λ l. (e.0, entries.File e.1) ∷ l) rest

remove_same : (t : FileTree) (p : PathNames) → remove_entry (same_path p) (of_files t) ≡ of_files (remove_entry (same_path p) t)
remove_same [] p = refl
remove_same (e ∷ es) p = go (same_path p e.0) (remove_same es p) where
  go : (b : Bool) → remove_entry (same_path p) (of_files es) ≡ of_files (remove_entry (same_path p) es)
      → cond b (of_files es) ((e.0, entries.File e.1) ∷ remove_entry (same_path p) (of_files es)) ≡ of_files (cond b es (e ∷ remove_entry (same_path p) es))
  go true rest = refl
  go false rest = ap (λ l. (e.0, entries.File e.1) ∷ l) rest

fault_same : (t : FileTree) (e : FileEdit) → fault_of (of_files t) (as_edit e) ≡ files.fault_of t e
fault_same t (files.Put p b) = rw (folder_same t p, through_same t p) refl
fault_same t (files.Remove p) = rw (content_there t p) refl

after_same : (t : FileTree) (e : FileEdit) → after_edit (of_files t) (as_edit e) ≡ of_files (files.after_edit t e)
after_same t (files.Put p b) = insert_same t p b
after_same t (files.Remove p) = remove_same t p

from_same : (at : ℕ) (t : FileTree) (es : List FileEdit) → apply_from at (of_files t) (map as_edit es) ≡ as_answer (files.apply_from at t es)
from_same at t [] = refl
from_same at t (e ∷ es) =
    rw (fault_same t e, after_same t e) (go (files.fault_of t e) (from_same (suc at) (files.after_edit t e) es))
  where
    go : (f : Option EditFault) → apply_from (suc at) (of_files (files.after_edit t e)) (map as_edit es) ≡ as_answer (files.apply_from (suc at) (files.after_edit t e) es)
        → unless at f (apply_from (suc at) (of_files (files.after_edit t e)) (map as_edit es))
        ≡ as_answer (files.unless at f (files.apply_from (suc at) (files.after_edit t e) es))
    go (Some f) rest = refl
    go None rest = rest

pub files_stay : FilesStayTheSame
files_stay t es = from_same 0 t es

nexts_same : (t : FileTree) (p : PathNames) → next_names (of_files t) p ≡ filter_map (λ e. next_name p e.0) t
nexts_same [] p = refl
nexts_same (e ∷ es) p = ap (cons_option (next_name p e.0)) (nexts_same es p)

names_same : (t : FileTree) (p : PathNames) → names_below (of_files t) p ≡ files.names_below t p
names_same t p = ap (dedup same_name) (nexts_same t p)

-- and lookups are the same
pub node_same : (t : FileTree) (p : PathNames) → node_at (of_files t) p ≡ files.node_at t p
node_same t [] =
    ap (λ c. elim c as (λ x. Node) [ None ↦ Folder (names_below (of_files t) []) | Some b ↦ File b ]) (content_there t [])
    ∙ ap (λ names. elim (files.content_at t []) as (λ x. Node) [ None ↦ Folder names | Some b ↦ File b ]) (names_same t [])
node_same t (n ∷ ns) =
    ap (λ c. elim c as (λ x. Node) [ None ↦ cond (is_folder (of_files t) (n ∷ ns)) (Folder (names_below (of_files t) (n ∷ ns))) NoSuch | Some b ↦ File b ]) (content_there t (n ∷ ns))
    ∙ (ap (λ f. elim (files.content_at t (n ∷ ns)) as (λ x. Node) [ None ↦ cond f (Folder (names_below (of_files t) (n ∷ ns))) NoSuch | Some b ↦ File b ]) (folder_same t (n ∷ ns))
    ∙ ap (λ names. elim (files.content_at t (n ∷ ns)) as (λ x. Node) [ None ↦ cond (files.is_folder t (n ∷ ns)) (Folder names) NoSuch | Some b ↦ File b ]) (names_same t (n ∷ ns)))
