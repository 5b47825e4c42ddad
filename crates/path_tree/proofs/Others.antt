-- What edits leave as it is, and an entry's number.
use Rattle.std.proofs.Common.{◌≡◌, ℕ, zero, suc, Bool, true, false, cond, List, [], ◌∷◌, drop, Option, Some, None, Result, Ok, Err, refl, ap, sym, ◌∙◌, subst}
use Rattle.std.specs.Prelude.{slice_get}
use Rattle.std.specs.List.{All}
use Rattle.std.specs.Option.{option_map}
use Rattle.std.specs.Ordering.{match_ordering}
use Rattle.std.specs.declared.cmp.Ordering.{Ordering}
use Rattle.std.specs.declared.cmp.Ordering.TheVariants.{Less, Equal, Greater}
use Rattle.std.specs.BTreeMap.{insert_entry}
use Rattle.std.specs.Map.{remove_entry}
use Rattle.std.proofs.lemmas.List.Elements.{All-head, All-tail}
use Rattle.path_tree.specs.Paths.{PathNames, path_cmp, same_path}
use Rattle.path_tree.specs.Trees.{Tree, entry_at}
use Rattle.path_tree.specs.Edits.{fault_of, after_edit, unless, apply_from, path_in}
use Rattle.path_tree.specs.declared.entry.Entry.{Entry}
use Rattle.path_tree.specs.declared.entry.Entry.TheVariants as entries
use Rattle.path_tree.specs.declared.tree.Edit.{Edit}
use Rattle.path_tree.specs.declared.tree.Edit.TheVariants.{Put, Remove, MakeFolder, RemoveFolder}
use Rattle.path_tree.specs.declared.tree.EditFault.{EditFault}
use Rattle.path_tree.proofs.Order.{same_path-is, path_cmp-is}
use Rattle.path_tree.proofs.Places.{first_is, first_is-same, rest_is}
use Rattle.path_tree.proofs.Changes.{rest_at}

-- ---- what an edit leaves

insert_other : (t : Tree) (p q : PathNames) (x : Entry) → same_path q p ≡ false → entry_at (insert_entry path_cmp t p x) q ≡ entry_at t q
insert_other [] p q x apart = rw apart refl
insert_other (e ∷ es) p q x apart = go (path_cmp p e.0) refl (insert_other es p q x apart) where
  go : (o : Ordering) → path_cmp p e.0 ≡ o → entry_at (insert_entry path_cmp es p x) q ≡ entry_at es q
      → entry_at (match_ordering o ((p, x) ∷ e ∷ es) ((e.0, x) ∷ es) (e ∷ insert_entry path_cmp es p x)) q ≡ entry_at (e ∷ es) q
  go Less is rest = rw apart refl
  go Equal is rest =
      let other : same_path q e.0 ≡ false = subst (λ z. same_path q z ≡ false) (path_cmp-is p e.0 is) apart in
      rw other refl
  go Greater is rest = ap (λ r. cond (same_path q e.0) (Some e.1) r) rest

remove_other : (t : Tree) (p q : PathNames) → same_path q p ≡ false → entry_at (remove_entry (same_path p) t) q ≡ entry_at t q
remove_other [] p q apart = refl
remove_other (e ∷ es) p q apart = go (same_path p e.0) refl (remove_other es p q apart) where
  go : (b : Bool) → same_path p e.0 ≡ b → entry_at (remove_entry (same_path p) es) q ≡ entry_at es q
      → entry_at (cond b es (e ∷ remove_entry (same_path p) es)) q ≡ entry_at (e ∷ es) q
  go true is rest =
      let other : same_path q e.0 ≡ false = subst (λ z. same_path q z ≡ false) (same_path-is p e.0 is) apart in
      rw other refl
  go false is rest = ap (λ r. cond (same_path q e.0) (Some e.1) r) rest

edited_other : (t : Tree) (e : Edit) (q : PathNames) → same_path q (path_in e) ≡ false → entry_at (after_edit t e) q ≡ entry_at t q
edited_other t (Put p b) q apart = insert_other t p q (entries.File b) apart
edited_other t (Remove p) q apart = remove_other t p q apart
edited_other t (MakeFolder p) q apart = insert_other t p q entries.Folder apart
edited_other t (RemoveFolder p) q apart = remove_other t p q apart

abbrev tree_in : Result Tree (ℕ × EditFault) → Tree
tree_in (Ok t) = t
tree_in (Err fault) = []

applied_other : (at : ℕ) (t u : Tree) (edits : List Edit) (q : PathNames) → apply_from at t edits ≡ Ok u → All (λ e. same_path q (path_in e) ≡ false) edits → entry_at u q ≡ entry_at t q
applied_other at t u [] q is apart = ap (λ z. entry_at z q) (sym (ap tree_in is))
applied_other at t u (e ∷ es) q is apart = go (fault_of t e) is (λ made. applied_other (suc at) (after_edit t e) u es q made (All-tail (λ x. same_path q (path_in x) ≡ false) e es apart)) where
  go : (f : Option EditFault) → unless at f (apply_from (suc at) (after_edit t e) es) ≡ Ok u → (apply_from (suc at) (after_edit t e) es ≡ Ok u → entry_at u q ≡ entry_at (after_edit t e) q) → entry_at u q ≡ entry_at t q
  go (Some fault) bad rest = cc
  go None made rest = rest made ∙ edited_other t e q (All-head (λ x. same_path q (path_in x) ≡ false) e es apart)

pub others : (t u : Tree) (edits : List Edit) (q : PathNames) → apply_from 0 t edits ≡ Ok u → All (λ e. same_path q (path_in e) ≡ false) edits → entry_at u q ≡ entry_at t q
others t u edits q is apart = applied_other 0 t u edits q is apart

-- ---- an entry's number

number_is : (t : Tree) (p : PathNames) (i : ℕ) → first_is (drop i t) p ≡ true → option_map (λ e. e.0) (slice_get t i) ≡ Some p
number_is [] p zero h = cc
number_is [] p (suc i) h = cc
number_is (e ∷ es) p zero h = ap Some (sym (same_path-is p e.0 (sym (first_is-same e es p) ∙ h)))
number_is (e ∷ es) p (suc i) h = number_is es p i h

pub number-cut : (t : Tree) (p : PathNames) (place : ℕ) → first_is (rest_at t place) p ≡ true → option_map (λ e. e.0) (slice_get t place) ≡ Some p
number-cut t p place e = number_is t p place (ap (λ l. first_is l p) (sym (rest_is place t)) ∙ e)
