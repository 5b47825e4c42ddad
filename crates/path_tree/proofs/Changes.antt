-- What the code's searches tell of an edit, of a look-up and of a list of edits.
use Rattle.std.proofs.Common.{◌≡◌, ◌≢◌, ℕ, suc, ◌+◌, ◌-◌, ◌<◌, ◌≤◌, true, false, List, [], ◌∷◌, length, drop, take, get_or, set, Option, Some, None, Ok, Err, is_some, refl, ap, sym, ◌∙◌, subst, cond, inl, inr, ◌⊎◌, drop-cons, add-one, length-drop, arith}
use Rattle.std.specs.List.{insert, remove}
use Rattle.std.specs.BTreeMap.{insert_entry}
use Rattle.std.specs.Map.{remove_entry}
use Rattle.std.proofs.lemmas.List.{drop_all}
use Rattle.std.specs.Option.{option_map}
use Rattle.path_tree.specs.Paths.{PathNames, path_cmp, same_path, is_root}
use Rattle.path_tree.specs.Trees.{Tree, IsTree, File, Folder, NoSuch, file_in, is_kept, entry_at, content_at, leads_on, is_folder, is_through_file, names_below, node_at}
use Rattle.path_tree.specs.Edits.{fault_of, after_edit, apply_from, path_in}
use Rattle.path_tree.specs.Inner.Places.{place_in, first_at, beyond, first_is_below, last_is_above}
use Rattle.path_tree.specs.declared.entry.Entry.{Entry}
use Rattle.path_tree.specs.declared.tree.Edit.{Edit}
use Rattle.path_tree.specs.declared.tree.Edit.TheVariants.{Remove, RemoveFolder}
use Rattle.path_tree.specs.declared.tree.EditFault.{EditFault}
use Rattle.path_tree.specs.declared.tree.EditFault.TheVariants.{NoSuchFile, NoSuchFolder, NotEmpty}
use Rattle.path_tree.proofs.Rising.{rises_tree}
use Rattle.path_tree.proofs.Places.{rest_is, first_is, entry_at-place, leads-place, above-place, insert-place, replace-place, remove-place}

-- the entries from a path's place on, as a slice of them is seen
abbrev pub rest_at : Tree → ℕ → Tree
rest_at t place = take (length t - place) (drop place t)

pub above-cut : (t : Tree) (p : PathNames) (place : ℕ) → IsTree t → place ≡ place_in t p → is_through_file t p ≡ last_is_above (take place t) p
above-cut t p place h is = above-place t p (rises_tree t h) ∙ ap (λ n. last_is_above (take n t) p) (sym is)

pub entry-cut : (t : Tree) (p : PathNames) (place : ℕ) → IsTree t → place ≡ place_in t p → entry_at t p ≡ first_at (rest_at t place) p
entry-cut t p place h is = entry_at-place t p (rises_tree t h) ∙ ap (λ n. first_at (drop n t) p) (sym is) ∙ ap (λ l. first_at l p) (sym (rest_is place t))

pub leads-cut : (t : Tree) (p : PathNames) (place : ℕ) → IsTree t → place ≡ place_in t p → leads_on t p ≡ first_is_below (beyond (rest_at t place) p) p
leads-cut t p place h is =
    leads-place t p (rises_tree t h) ∙ ap (λ n. first_is_below (beyond (drop n t) p) p) (sym is)
    ∙ ap (λ l. first_is_below (beyond l p) p) (sym (rest_is place t))

first-cut : (t : Tree) (p : PathNames) (place : ℕ) → place ≡ place_in t p → first_is (drop (place_in t p) t) p ≡ first_is (rest_at t place) p
first-cut t p place is = ap (λ n. first_is (drop n t) p) (sym is) ∙ ap (λ l. first_is l p) (sym (rest_is place t))

pub insert-cut : (t : Tree) (p : PathNames) (x : Entry) (place : ℕ) → place ≡ place_in t p → first_is (rest_at t place) p ≡ false → insert t place (p, x) ≡ insert_entry path_cmp t p x
insert-cut t p x place is e = ap (λ n. insert t n (p, x)) is ∙ insert-place t p x (first-cut t p place is ∙ e)

pub replace-cut : (t : Tree) (p : PathNames) (x : Entry) (place : ℕ) → place ≡ place_in t p → first_is (rest_at t place) p ≡ true → set t place (p, x) ≡ insert_entry path_cmp t p x
replace-cut t p x place is e = ap (λ n. set t n (p, x)) is ∙ replace-place t p x (first-cut t p place is ∙ e)

pub remove-cut : (t : Tree) (p : PathNames) (place : ℕ) → place ≡ place_in t p → first_is (rest_at t place) p ≡ true → remove t place ≡ remove_entry (same_path p) t
remove-cut t p place is e = ap (remove t) is ∙ remove-place t p (first-cut t p place is ∙ e)

-- a path's place, where an entry stands at it, is one of the entries'
pub within-cut : (t : Tree) (p : PathNames) (place : ℕ) → first_is (rest_at t place) p ≡ true → place < length t
within-cut t p place e = go (drop place t) refl (ap (λ l. first_is l p) (sym (rest_is place t)) ∙ e) where
  go : (l : Tree) → drop place t ≡ l → first_is l p ≡ true → place < length t
  go [] is e = cc
  go (f ∷ fs) is e = omega (arith, length-drop place t, ap length is)

pub mapped_some : {A B : Type 0} (f : A → B) (o : Option A) → is_some (option_map f o) ≡ is_some o
mapped_some f (Some x) = refl
mapped_some f None = refl

-- ---- what an edit that isn't refused takes out

abbrev pub TakesOut : Edit → Type 0
TakesOut e = ((p : PathNames) × (e ≡ Remove p)) ⊎ ((p : PathNames) × (e ≡ RemoveFolder p))

file_there : (t : Tree) (p : PathNames) → fault_of t (Remove p) ≡ None → is_some (entry_at t p) ≡ true
file_there t p none = go (entry_at t p) none where
  go : (e : Option Entry) → cond (is_some (file_in e)) None (Some NoSuchFile) ≡ None → is_some e ≡ true
  go (Some x) none = refl
  go None none = cc

folder_there : (t : Tree) (p : PathNames) → fault_of t (RemoveFolder p) ≡ None → is_some (entry_at t p) ≡ true
folder_there t p none = go (entry_at t p) none where
  go : (e : Option Entry) → cond (is_kept e) (cond (leads_on t p) (Some NotEmpty) None) (Some NoSuchFolder) ≡ None → is_some e ≡ true
  go (Some x) none = refl
  go None none = cc

pub taken_there : (t : Tree) (e : Edit) (place : ℕ) → IsTree t → place ≡ place_in t (path_in e) → fault_of t e ≡ None → TakesOut e → first_is (rest_at t place) (path_in e) ≡ true
taken_there t e place h is none (inl (p, same)) = ap is_some (sym (entry-cut t (path_in e) place h is)) ∙ (ap (λ x. is_some (entry_at t (path_in x))) same ∙ file_there t p (ap (fault_of t) (sym same) ∙ none))
taken_there t e place h is none (inr (p, same)) = ap is_some (sym (entry-cut t (path_in e) place h is)) ∙ (ap (λ x. is_some (entry_at t (path_in x))) same ∙ folder_there t p (ap (fault_of t) (sym same) ∙ none))

pub taken_within : (t : Tree) (e : Edit) (place : ℕ) → IsTree t → place ≡ place_in t (path_in e) → fault_of t e ≡ None → TakesOut e → place < length t
taken_within t e place h is none out = within-cut t (path_in e) place (taken_there t e place h is none out)

after_taken : (t : Tree) (e : Edit) → TakesOut e → remove_entry (same_path (path_in e)) t ≡ after_edit t e
after_taken t e (inl (p, same)) = ap (λ x. remove_entry (same_path (path_in x)) t) same ∙ ap (after_edit t) (sym same)
after_taken t e (inr (p, same)) = ap (λ x. remove_entry (same_path (path_in x)) t) same ∙ ap (after_edit t) (sym same)

pub taken_out : (t : Tree) (e : Edit) (place : ℕ) → IsTree t → place ≡ place_in t (path_in e) → fault_of t e ≡ None → TakesOut e → remove t place ≡ after_edit t e
taken_out t e place h is none out = remove-cut t (path_in e) place is (taken_there t e place h is none out) ∙ after_taken t e out

-- ---- what stands at a path

pub node-file : (t : Tree) (p : PathNames) (b : List ℕ) → content_at t p ≡ Some b → File b ≡ node_at t p
node-file t p b is = rw is refl

pub node-folder : (t : Tree) (p : PathNames) → content_at t p ≡ None → is_folder t p ≡ true → node_at t p ≡ Folder (names_below t p)
node-folder t p none f = rw (none, f) refl

pub node-none : (t : Tree) (p : PathNames) → content_at t p ≡ None → is_folder t p ≡ false → node_at t p ≡ NoSuch
node-none t p none f = rw (none, f) refl

pub not_root : (p : PathNames) → length p ≢ 0 → is_root p ≡ false
not_root [] ne = absurd (ne refl)
not_root (n ∷ ns) ne = refl

-- ---- a list of edits

pub apply-step : (t : Tree) (edits : List Edit) (i : ℕ) (d : Edit) → i < length edits → fault_of t (get_or edits i d) ≡ None → apply_from i t (drop i edits) ≡ apply_from (i + 1) (after_edit t (get_or edits i d)) (drop (i + 1) edits)
apply-step t edits i d within none = rw (drop-cons edits i d within, add-one) (made (get_or edits i d) none (drop (suc i) edits)) where
  made : (e : Edit) → fault_of t e ≡ None → (es : List Edit) → apply_from i t (e ∷ es) ≡ apply_from (suc i) (after_edit t e) es
  made e none es = rw none refl

pub apply-refused : (t : Tree) (edits : List Edit) (i : ℕ) (d : Edit) (fault : EditFault) → i < length edits → fault_of t (get_or edits i d) ≡ Some fault → apply_from i t (drop i edits) ≡ Err (i, fault)
apply-refused t edits i d fault within is = rw (drop-cons edits i d within) (made (get_or edits i d) is (drop (suc i) edits)) where
  made : (e : Edit) → fault_of t e ≡ Some fault → (es : List Edit) → apply_from i t (e ∷ es) ≡ Err (i, fault)
  made e is es = rw is refl

pub apply-end : (t : Tree) (edits : List Edit) (i : ℕ) → length edits ≤ i → apply_from i t (drop i edits) ≡ Ok t
apply-end t edits i out = rw (drop_all i edits out) refl

-- ---- the trees that the code's changes leave

pub tree_same : (t u : Tree) → u ≡ t → IsTree t → IsTree u
tree_same t u e h = subst IsTree (sym e) h
