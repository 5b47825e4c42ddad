-- Edits in path order, applied one after another.
use Rattle.std.proofs.Common.{◌≡◌, ◌⊎◌, ℕ, suc, ◌≤◌, Bool, true, false, ◌&&◌, nat_lt, List, [], ◌∷◌, ◌++◌, length, take, Option, Some, None, Result, Ok, cond, refl, sym, ap, ◌∙◌, inl, inr, arith, append_assoc, append-nil, length-take}
use Rattle.std.specs.declared.cmp.Ordering.TheVariants.{Less, Equal, Greater}
use Rattle.std.specs.Ordering.{ordering_reverse}
use Rattle.std.specs.BTreeMap.{insert_entry}
use Rattle.std.specs.List.{AllByRecursion, sum_by}
use Rattle.std.specs.Map.{lookup}
use Rattle.std.proofs.lemmas.Bool.{ltb-false}
use Rattle.std.proofs.lemmas.Cmp.{tied_itself}
use Rattle.std.proofs.lemmas.List.{take_all}
use Rattle.std.proofs.lemmas.List.Elements.{recursion_from_All}
use Rattle.path_tree.specs.Paths.{Bytes, PathNames, path_cmp, same_path}
use Rattle.path_tree.specs.Edits.{apply_all, apply_from, after_edit, fault_of, unless}
use Rattle.path_tree.specs.Trees.{Tree, file_in, is_folder, is_through_file}
use Rattle.path_tree.specs.Trees as trees
use Rattle.path_tree.specs.declared.entry.Entry.{Entry}
use Rattle.path_tree.specs.declared.entry.Entry.TheVariants as kept
use Rattle.path_tree.specs.declared.tree.Edit.{Edit}
use Rattle.path_tree.specs.declared.tree.Edit.TheVariants.{Put, Remove, MakeFolder, RemoveFolder}
use Rattle.path_tree.specs.declared.tree.EditFault.{EditFault}
use Rattle.path_tree.specs.declared.tree.EditFault.TheVariants.{FolderThere, ThroughFile, FileTooLarge}
use Rattle.path_tree.proofs.CallerLemmas.{path_total, same_path-is, same_path-refl}
use Rattle.folder_store.specs.Folders.{FolderTree, IsFolderTree, content_of, entry_at}
use Rattle.folder_store.specs.Walk.{HasFiles, MakesFolder, PutsFile, PutsFiles, edits_of, is_bare_folder, path_in, size, text_below}
use Rattle.folder_store.proofs.Naming.{In, each_in, in_from, true_or_false}
use Rattle.folder_store.proofs.Files.{Ascends, ascends_from, puts_files}

-- ---- paths

both_true : (a b : Bool) → (a && b) ≡ true → (a ≡ true) × (b ≡ true)
both_true true b e = (refl, e)
both_true false b e = cc

not_less_itself : (p : PathNames) → path_cmp p p ≡ Less → ⊥
not_less_itself p e = let t : path_cmp p p ≡ Equal = tied_itself path_total p in let z : Less ≡ Equal = sym e ∙ t in cc

-- ---- edits that put files and make folders

abbrev Adds : Edit → Type 0
Adds (Put p b) = Unit {0}
Adds (MakeFolder p) = Unit {0}
Adds (Remove p) = ⊥
Adds (RemoveFolder p) = ⊥

-- what edits add, an entry for each
abbrev pub files_of : List Edit → Tree
files_of [] = []
files_of (Put p b ∷ es) = (p, kept.File b) ∷ files_of es
files_of (MakeFolder p ∷ es) = (p, kept.Folder) ∷ files_of es
files_of (Remove p ∷ es) = files_of es
files_of (RemoveFolder p ∷ es) = files_of es

-- the edit that adds an entry
abbrev edit_for : PathNames → Entry → Edit
edit_for p (kept.File b) = Put p b
edit_for p kept.Folder = MakeFolder p

-- after all others
insert_last : (t : Tree) (p : PathNames) (b : Entry) → AllByRecursion (λ e. path_cmp e.0 p ≡ Less) t → insert_entry path_cmp t p b ≡ t ++ (p, b) ∷ []
insert_last [] p b h = refl
insert_last (e ∷ t) p b h =
    let after : path_cmp p e.0 ≡ Greater = path_total.antisymm p e.0 ∙ ap ordering_reverse h.0 in
    rw after (ap (λ (u : Tree). e ∷ u) (insert_last t p b h.1))

no_fault : (at : ℕ) (o : Option EditFault) (rest : Result Tree (ℕ × EditFault)) (t : Tree) → unless at o rest ≡ Ok t → (o ≡ None) × (rest ≡ Ok t)
no_fault at None rest t h = (refl, h)
no_fault at (Some fault) rest t h = cc

not_large : (t : Tree) (p : PathNames) (b : Bytes) → fault_of t (Put p b) ≡ None → length b ≤ 16777216
not_large t p b h = by (is_folder t p) (is_through_file t p) (true_or_false (nat_lt 16777216 (length b))) h where
  by : (x y : Bool) → (nat_lt 16777216 (length b) ≡ true) ⊎ (nat_lt 16777216 (length b) ≡ false) → cond x (Some FolderThere) (cond y (Some ThroughFile) (cond (nat_lt 16777216 (length b)) (Some FileTooLarge) None)) ≡ None → length b ≤ 16777216
  by true y c k = cc
  by false true c k = cc
  by false false (inl large) k = let z : Some FileTooLarge ≡ None = rw large at k in cc
  by false false (inr small) k = ltb-false 16777216 (length b) small

one_last : (t : Tree) (p q : PathNames) (b : Entry) → AllByRecursion (λ e. path_cmp e.0 q ≡ Less) t → path_cmp p q ≡ Less → AllByRecursion (λ e. path_cmp e.0 q ≡ Less) (t ++ (p, b) ∷ [])
one_last [] p q b h less = (less, tt)
one_last (e ∷ t) p q b h less = (h.0, one_last t p q b h.1 less)

-- each file of the tree stands before each edit
abbrev Before : Tree → List Edit → Type 0
Before t es = AllByRecursion (λ e. AllByRecursion (λ f. path_cmp f.0 (path_in e) ≡ Less) t) es

before_more : (t : Tree) (p : PathNames) (b : Entry) (es : List Edit) → Before t es → AllByRecursion (λ f. path_cmp p (path_in f) ≡ Less) es → Before (t ++ (p, b) ∷ []) es
before_more t p b [] h less = tt
before_more t p b (e ∷ es) h less = (one_last t p (path_in e) b h.0 less.0, before_more t p b es h.1 less.1)

applied : (at : ℕ) (t : Tree) (es : List Edit) (tree : Tree) → AllByRecursion Adds es → Ascends es → Before t es → apply_from at t es ≡ Ok tree
    → (tree ≡ t ++ files_of es) × AllByRecursion (λ e. size e ≤ 16777216) es
applied at t [] tree adds up before h = (sym same ∙ sym (append-nil t), tt) where
  same : t ≡ tree
  same = cc
applied at t (Remove p ∷ es) tree adds up before h = absurd adds.0
applied at t (RemoveFolder p ∷ es) tree adds up before h = absurd adds.0
applied at t (Put p b ∷ es) tree adds up before h =
    let r = no_fault at (fault_of t (Put p b)) (apply_from (suc at) (after_edit t (Put p b)) es) tree h in
    let last : insert_entry path_cmp t p (kept.File b) ≡ t ++ (p, kept.File b) ∷ [] = insert_last t p (kept.File b) before.0 in
    let further : apply_from (suc at) (t ++ (p, kept.File b) ∷ []) es ≡ Ok tree = ap (λ (u : Tree). apply_from (suc at) u es) (sym last) ∙ r.1 in
    let q = applied (suc at) (t ++ (p, kept.File b) ∷ []) es tree adds.1 up.1 (before_more t p (kept.File b) es before.1 up.0) further in
    (q.0 ∙ append_assoc t ((p, kept.File b) ∷ []) (files_of es), (not_large t p b r.0, q.1))
applied at t (MakeFolder p ∷ es) tree adds up before h =
    let r = no_fault at (fault_of t (MakeFolder p)) (apply_from (suc at) (after_edit t (MakeFolder p)) es) tree h in
    let last : insert_entry path_cmp t p kept.Folder ≡ t ++ (p, kept.Folder) ∷ [] = insert_last t p kept.Folder before.0 in
    let further : apply_from (suc at) (t ++ (p, kept.Folder) ∷ []) es ≡ Ok tree = ap (λ (u : Tree). apply_from (suc at) u es) (sym last) ∙ r.1 in
    let q = applied (suc at) (t ++ (p, kept.Folder) ∷ []) es tree adds.1 up.1 (before_more t p kept.Folder es before.1 up.0) further in
    (q.0 ∙ append_assoc t ((p, kept.Folder) ∷ []) (files_of es), (omega arith, q.1))

-- ---- what the tree has at a path

same_added : (p path : PathNames) (x y : Entry) → same_path path p ≡ true → Some x ≡ Some y → edit_for p x ≡ edit_for path y
same_added p path x y found is =
    let entry : x ≡ y = cc in
    ap (λ (q : PathNames). edit_for q x) (sym (same_path-is path p found)) ∙ ap (edit_for path) entry

found_one : (p path : PathNames) (x y : Entry) (t : Tree) (es : List Edit) → lookup (same_path path) ((p, x) ∷ t) ≡ Some y → (lookup (same_path path) t ≡ Some y → In (edit_for path y) es) → In (edit_for path y) (edit_for p x ∷ es)
found_one p path x y t es h rest = go (true_or_false (same_path path p)) h where
  go : (same_path path p ≡ true) ⊎ (same_path path p ≡ false) → cond (same_path path p) (Some x) (lookup (same_path path) t) ≡ Some y → In (edit_for path y) (edit_for p x ∷ es)
  go (inl found) k = let j : Some x ≡ Some y = rw found at k in inl (same_added p path x y found j)
  go (inr isnt) k = let j : lookup (same_path path) t ≡ Some y = rw isnt at k in inr (rest j)

found_added : (es : List Edit) (path : PathNames) (y : Entry) → lookup (same_path path) (files_of es) ≡ Some y → In (edit_for path y) es
found_added [] path y h = cc
found_added (Remove p ∷ es) path y h = inr (found_added es path y h)
found_added (RemoveFolder p ∷ es) path y h = inr (found_added es path y h)
found_added (Put p b ∷ es) path y h = found_one p path (kept.File b) y (files_of es) es h (λ k. found_added es path y k)
found_added (MakeFolder p ∷ es) path y h = found_one p path kept.Folder y (files_of es) es h (λ k. found_added es path y k)

edit_path : (p : PathNames) (x : Entry) → path_in (edit_for p x) ≡ p
edit_path p (kept.File b) = refl
edit_path p kept.Folder = refl

edit_parts : (p path : PathNames) (x y : Entry) → edit_for p x ≡ edit_for path y → (p ≡ path) × (x ≡ y)
edit_parts p path (kept.File b) (kept.File c) h = let is : p ≡ path = cc in let bytes : b ≡ c = cc in (is, ap kept.File bytes)
edit_parts p path kept.Folder kept.Folder h = let is : p ≡ path = cc in (is, refl)
edit_parts p path (kept.File b) kept.Folder h = cc
edit_parts p path kept.Folder (kept.File c) h = cc

added_one : (p path : PathNames) (x y : Entry) (t : Tree) (es : List Edit) → AllByRecursion (λ f. path_cmp p (path_in f) ≡ Less) es → In (edit_for path y) (edit_for p x ∷ es)
    → (In (edit_for path y) es → lookup (same_path path) t ≡ Some y) → lookup (same_path path) ((p, x) ∷ t) ≡ Some y
added_one p path x y t es up (inl is) rest =
    let parts = edit_parts p path x y is in
    let found : same_path path p ≡ true = ap (same_path path) parts.0 ∙ same_path-refl path in
    rw found (ap Some parts.1)
added_one p path x y t es up (inr h) rest = go (true_or_false (same_path path p)) (rest h) where
  less : path_cmp p path ≡ Less
  less = ap (path_cmp p) (sym (edit_path path y)) ∙ each_in (λ e. path_cmp p (path_in e) ≡ Less) es (edit_for path y) up h

  go : (same_path path p ≡ true) ⊎ (same_path path p ≡ false) → lookup (same_path path) t ≡ Some y → lookup (same_path path) ((p, x) ∷ t) ≡ Some y
  go (inl found) k = absurd (not_less_itself p (ap (path_cmp p) (sym (same_path-is path p found)) ∙ less))
  go (inr isnt) k = rw isnt k

not_removed : (p path : PathNames) (y : Entry) → Remove p ≡ edit_for path y → ⊥
not_removed p path (kept.File b) h = cc
not_removed p path kept.Folder h = cc

no_folder_removed : (p path : PathNames) (y : Entry) → RemoveFolder p ≡ edit_for path y → ⊥
no_folder_removed p path (kept.File b) h = cc
no_folder_removed p path kept.Folder h = cc

added_found : (es : List Edit) (path : PathNames) (y : Entry) → Ascends es → In (edit_for path y) es → lookup (same_path path) (files_of es) ≡ Some y
added_found [] path y up h = absurd h
added_found (Remove p ∷ es) path y up (inl is) = absurd (not_removed p path y is)
added_found (Remove p ∷ es) path y up (inr h) = added_found es path y up.1 h
added_found (RemoveFolder p ∷ es) path y up (inl is) = absurd (no_folder_removed p path y is)
added_found (RemoveFolder p ∷ es) path y up (inr h) = added_found es path y up.1 h
added_found (Put p b ∷ es) path y up h = added_one p path (kept.File b) y (files_of es) es up.0 h (λ i. added_found es path y up.1 i)
added_found (MakeFolder p ∷ es) path y up h = added_one p path kept.Folder y (files_of es) es up.0 h (λ i. added_found es path y up.1 i)

file_entry : (o : Option Entry) (content : Bytes) → file_in o ≡ Some content → o ≡ Some (kept.File content)
file_entry None content h = cc
file_entry (Some kept.Folder) content h = cc
file_entry (Some (kept.File b)) content h = let same : b ≡ content = cc in ap (λ (x : Bytes). Some (kept.File x)) same

-- ---- the whole

abbrev IsOf : FolderTree → Bytes → Edit → Type 0
IsOf t root e = PutsFile t root e ⊎ MakesFolder t root e

adds : (t : FolderTree) (root : Bytes) (e : Edit) → IsOf t root e → Adds e
adds t root (Put p b) h = tt
adds t root (MakeFolder p) h = tt
adds t root (Remove p) (inl h) = let z = h.form in cc
adds t root (Remove p) (inr h) = let z = h.form in cc
adds t root (RemoveFolder p) (inl h) = let z = h.form in cc
adds t root (RemoveFolder p) (inr h) = let z = h.form in cc

all_add : (t : FolderTree) (root : Bytes) (es : List Edit) → AllByRecursion (IsOf t root) es → AllByRecursion Adds es
all_add t root [] h = tt
all_add t root (e ∷ es) h = (adds t root e h.0, all_add t root es h.1)

none_before : (es : List Edit) → Before [] es
none_before [] = tt
none_before (e ∷ es) = (tt, none_before es)

-- a file of which so few bytes were read was read whole
read_whole : (bytes content : Bytes) → bytes ≡ take 16777217 content → length bytes ≤ 16777216 → bytes ≡ content
read_whole bytes content is few = is ∙ take_all 16777217 content (short bytes content is few) where
  short : (bytes content : Bytes) → bytes ≡ take 16777217 content → length bytes ≤ 16777216 → length content ≤ 16777217
  short bytes content is few = omega (arith, ap length is, length-take 16777217 content, few)

pub edits_make_files : (t : FolderTree) (root : Bytes) (es : List Edit) (tree : Tree) → IsFolderTree t → edits_of t root ≡ Ok es → sum_by size es ≤ 536870912 → apply_all [] es ≡ Ok tree → HasFiles t root tree
edits_make_files t root es tree folder h few made =
    let puts : PutsFiles t root es = puts_files t root es folder h in
    let each : AllByRecursion (IsOf t root) es = recursion_from_All (IsOf t root) es puts.each_is in
    let up : Ascends es = ascends_from es puts.in_order in
    let r = applied 0 [] es tree (all_add t root es each) up (none_before es) made in
    record {
      files = λ path content good below. (
        λ at. from_tree path content r.1 each (found_added es path (kept.File content) (sym (ap (lookup (same_path path)) r.0) ∙ file_entry (trees.entry_at tree path) content at)),
        λ there. ap file_in (ap (lookup (same_path path)) r.0 ∙ from_folder path content r.1 up (in_from es (Put path (take 16777217 content)) (puts.each few path content good below there))),
      );
      folders = λ path good below. (
        λ at. made_there path each (found_added es path kept.Folder (sym (ap (lookup (same_path path)) r.0) ∙ at)),
        λ bare. ap (lookup (same_path path)) r.0 ∙ added_found es path kept.Folder up (in_from es (MakeFolder path) (puts.each_bare few path good below bare)),
      );
    }
  where
    file_put : (path : PathNames) (content : Bytes) → length content ≤ 16777216 → IsOf t root (Put path content) → content_of (entry_at t (text_below root path)) ≡ Some content
    file_put path content small (inl p) =
        let form = p.form in
        let path_is : path ≡ p.path = cc in
        let bytes_is : content ≡ take 16777217 p.content = cc in
        let whole : content ≡ p.content = read_whole content p.content bytes_is small in
        ap (λ (q : PathNames). content_of (entry_at t (text_below root q))) path_is ∙ p.file ∙ ap Some (sym whole)
    file_put path content small (inr p) = let form = p.form in cc

    folder_made : (path : PathNames) → IsOf t root (MakeFolder path) → is_bare_folder t (text_below root path) ≡ true
    folder_made path (inl p) = let form = p.form in cc
    folder_made path (inr p) =
        let form = p.form in
        let path_is : path ≡ p.path = cc in
        ap (λ (q : PathNames). is_bare_folder t (text_below root q)) path_is ∙ p.bare

    from_tree : (path : PathNames) (content : Bytes) → AllByRecursion (λ e. size e ≤ 16777216) es → AllByRecursion (IsOf t root) es → In (Put path content) es → content_of (entry_at t (text_below root path)) ≡ Some content
    from_tree path content sizes each i =
        file_put path content (each_in (λ e. size e ≤ 16777216) es (Put path content) sizes i) (each_in (IsOf t root) es (Put path content) each i)

    made_there : (path : PathNames) → AllByRecursion (IsOf t root) es → In (MakeFolder path) es → is_bare_folder t (text_below root path) ≡ true
    made_there path each i = folder_made path (each_in (IsOf t root) es (MakeFolder path) each i)

    from_folder : (path : PathNames) (content : Bytes) → AllByRecursion (λ e. size e ≤ 16777216) es → Ascends es → In (Put path (take 16777217 content)) es → lookup (same_path path) (files_of es) ≡ Some (kept.File content)
    from_folder path content sizes up i =
        let small : length (take 16777217 content) ≤ 16777216 = each_in (λ e. size e ≤ 16777216) es (Put path (take 16777217 content)) sizes i in
        added_found es path (kept.File (take 16777217 content)) up i ∙ ap (λ (x : Bytes). Some (kept.File x)) (read_whole (take 16777217 content) content refl small)
