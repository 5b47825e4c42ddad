-- The first file that is too large is the one that a commit names.
use Rattle.std.proofs.Common.{◌≡◌, ℕ, zero, suc, ◌+◌, ◌≤◌, Bool, true, false, cond, List, [], ◌∷◌, length, Option, Some, None, Result, Ok, Err, refl, ◌∙◌, sym, ap, arith, zero-add}
use Rattle.std.specs.Prelude.{is_some, nat_lt, ◌||◌}
use Rattle.oc_bytes.specs.Outcome.{cap_at_u64}
use Rattle.path_tree.specs.Paths.{Bytes, is_root}
use Rattle.path_tree.specs.Edits.{after_edit, apply_all, apply_from, fault_of, unless}
use Rattle.path_tree.specs.Trees.{Tree, content_at, entry_at, is_folder, is_kept, is_through_file, leads_on}
use Rattle.path_tree.specs.declared.tree.Edit.{Edit}
use Rattle.path_tree.specs.declared.tree.Edit.TheVariants.{Put, Remove, MakeFolder, RemoveFolder}
use Rattle.path_tree.specs.declared.tree.EditFault.{EditFault}
use Rattle.path_tree.specs.declared.tree.EditFault.TheVariants as edits
use Rattle.generation.specs.Publication as limits
use Rattle.generation_catalogue.specs.History.{put_bytes, unless_edit, unless_limit}
use Rattle.generation_catalogue.specs.declared.entry.Refusal.TheVariants as refusals
use Rattle.folder_store.specs.Surveys.{first_large}
use Rattle.folder_store.specs.Walk.{text_below}
use Rattle.publication_plan.specs.Plans.{first_outcome}
use Rattle.publication_plan.specs.Inner.Refusals.{refused_path}
use Rattle.publication_plan.proofs.Judgement.{outcome_is}

place_is : (p q : ℕ × EditFault) → p ≡ q → p.0 ≡ q.0
place_is p q e = ap (λ (x : ℕ × EditFault). x.0) e

fault_is : (p q : ℕ × EditFault) → p ≡ q → p.1 ≡ q.1
fault_is p q e = ap (λ (x : ℕ × EditFault). x.1) e

-- the refused edit stands no earlier than where it was begun
no_earlier : (at : ℕ) (t : Tree) (es : List Edit) (place : ℕ) (fault : EditFault) → apply_from at t es ≡ Err (place, fault) → at ≤ place
no_earlier at t [] place fault e = cc
no_earlier at t (d ∷ es) place fault e = by (fault_of t d) (no_earlier (suc at) (after_edit t d) es place fault) e where
  by : (o : Option EditFault) → (apply_from (suc at) (after_edit t d) es ≡ Err (place, fault) → suc at ≤ place) → unless at o (apply_from (suc at) (after_edit t d) es) ≡ Err (place, fault) → at ≤ place
  by None later h = let le : suc at ≤ place = later h in omega (arith, le)
  by (Some found) later h = let same : at ≡ place = place_is (at, found) (place, fault) cc in omega (arith, same)

-- an edit that is refused since its file is too large
is_large : (root : Bytes) (t : Tree) (d : Edit) (es : List Edit) → fault_of t d ≡ Some edits.FileTooLarge → first_large root (d ∷ es) ≡ Some (text_below root (refused_path (d ∷ es) (refusals.Edit 0 edits.FileTooLarge)))
is_large root t (Put p b) es e = by (is_folder t p) (is_through_file t p) (nat_lt 16777216 (length b)) e where
  by : (x y large : Bool) → cond x (Some edits.FolderThere) (cond y (Some edits.ThroughFile) (cond large (Some edits.FileTooLarge) None)) ≡ Some edits.FileTooLarge
      → cond large (Some (text_below root p)) (first_large root es) ≡ Some (text_below root p)
  by x y true h = refl
  by true y false h = cc
  by false true false h = cc
  by false false false h = cc
is_large root t (Remove p) es e = by (content_at t p) e where
  by : (o : Option Bytes) → cond (is_some o) None (Some edits.NoSuchFile) ≡ Some edits.FileTooLarge → first_large root es ≡ Some (text_below root p)
  by (Some b) h = cc
  by None h = cc
is_large root t (MakeFolder p) es e = by (is_root p || is_kept (entry_at t p)) (is_some (content_at t p)) (is_through_file t p) e where
  by : (x y z : Bool) → cond x (Some edits.FolderThere) (cond y (Some edits.FileThere) (cond z (Some edits.ThroughFile) None)) ≡ Some edits.FileTooLarge → first_large root es ≡ Some (text_below root p)
  by true y z h = cc
  by false true z h = cc
  by false false true h = cc
  by false false false h = cc
is_large root t (RemoveFolder p) es e = by (is_kept (entry_at t p)) (leads_on t p) e where
  by : (x y : Bool) → cond x (cond y (Some edits.NotEmpty) None) (Some edits.NoSuchFolder) ≡ Some edits.FileTooLarge → first_large root es ≡ Some (text_below root p)
  by true true h = cc
  by true false h = cc
  by false y h = cc

-- an edit that isn't refused
isnt_large : (root : Bytes) (t : Tree) (d : Edit) (es : List Edit) → fault_of t d ≡ None → first_large root (d ∷ es) ≡ first_large root es
isnt_large root t (Put p b) es e = by (is_folder t p) (is_through_file t p) (nat_lt 16777216 (length b)) e where
  by : (x y large : Bool) → cond x (Some edits.FolderThere) (cond y (Some edits.ThroughFile) (cond large (Some edits.FileTooLarge) None)) ≡ None
      → cond large (Some (text_below root p)) (first_large root es) ≡ first_large root es
  by x y false h = refl
  by true y true h = cc
  by false true true h = cc
  by false false true h = cc
isnt_large root t (Remove p) es e = refl
isnt_large root t (MakeFolder p) es e = refl
isnt_large root t (RemoveFolder p) es e = refl

first_is : (root : Bytes) (at k : ℕ) (t : Tree) (es : List Edit) → apply_from at t es ≡ Err (at + k, edits.FileTooLarge) → first_large root es ≡ Some (text_below root (refused_path es (refusals.Edit k edits.FileTooLarge)))
first_is root at k t [] e = cc
first_is root at zero t (d ∷ es) e = by (fault_of t d) refl e where
  by : (o : Option EditFault) → fault_of t d ≡ o → unless at o (apply_from (suc at) (after_edit t d) es) ≡ Err (at + 0, edits.FileTooLarge)
      → first_large root (d ∷ es) ≡ Some (text_below root (refused_path (d ∷ es) (refusals.Edit 0 edits.FileTooLarge)))
  by None is h = let le : suc at ≤ at + 0 = no_earlier (suc at) (after_edit t d) es (at + 0) edits.FileTooLarge h in absurd (omega (arith, le))
  by (Some fault) is h = let same : fault ≡ edits.FileTooLarge = fault_is (at, fault) (at + 0, edits.FileTooLarge) cc in is_large root t d es (is ∙ ap Some same)
first_is root at (suc k) t (d ∷ es) e = by (fault_of t d) refl (first_is root (suc at) k (after_edit t d) es) e where
  by : (o : Option EditFault) → fault_of t d ≡ o
      → (apply_from (suc at) (after_edit t d) es ≡ Err (suc at + k, edits.FileTooLarge) → first_large root es ≡ Some (text_below root (refused_path es (refusals.Edit k edits.FileTooLarge))))
      → unless at o (apply_from (suc at) (after_edit t d) es) ≡ Err (at + suc k, edits.FileTooLarge)
      → first_large root (d ∷ es) ≡ Some (text_below root (refused_path (d ∷ es) (refusals.Edit (suc k) edits.FileTooLarge)))
  by None is rest h =
      let place : at + suc k ≡ suc at + k = omega arith in
      isnt_large root t d es is ∙ rest (h ∙ ap (λ (n : ℕ). Err (n, edits.FileTooLarge)) place)
  by (Some fault) is rest h = let same : at ≡ at + suc k = place_is (at, fault) (at + suc k, edits.FileTooLarge) cc in absurd (omega (arith, same))

-- a commit that names an edit was refused by its edits
edit_refused : (carousel : ℕ) (es : List Edit) (place : ℕ) → first_outcome carousel es ≡ Err (refusals.Edit place edits.FileTooLarge) → apply_all [] es ≡ Err (place, edits.FileTooLarge)
edit_refused carousel es place why = by (nat_lt 536870912 (put_bytes es)) (apply_all [] es) (sym (outcome_is carousel es) ∙ why) where
  no_limit : (o : Option limits.Passed) → unless_limit 1 o ≡ Err (refusals.Edit place edits.FileTooLarge) → ⊥
  no_limit None e = cc
  no_limit (Some (limits.Objects n)) e = cc
  no_limit (Some (limits.Folder p)) e = cc
  no_limit (Some (limits.Total n)) e = cc
  no_limit (Some (limits.Modules n)) e = cc

  by : (full : Bool) (r : Result Tree (ℕ × EditFault)) → cond full (Err (refusals.JournalFull (cap_at_u64 (put_bytes es)))) (unless_edit 1 r) ≡ Err (refusals.Edit place edits.FileTooLarge)
      → r ≡ Err (place, edits.FileTooLarge)
  by true r e = cc
  by false (Ok t) e = absurd (no_limit (limits.limit_of t) e)
  by false (Err (at, fault)) e = cc

-- the first file that is too large is that of the edit that a commit names
pub too_large : (root : Bytes) (carousel : ℕ) (es : List Edit) (place : ℕ) → first_outcome carousel es ≡ Err (refusals.Edit place edits.FileTooLarge)
    → first_large root es ≡ Some (text_below root (refused_path es (refusals.Edit place edits.FileTooLarge)))
too_large root carousel es place why = first_is root 0 place [] es (edit_refused carousel es place why ∙ ap (λ (n : ℕ). Err (n, edits.FileTooLarge)) (sym (zero-add place)))
