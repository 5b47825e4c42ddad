-- A folder's edits, judged as a carousel's first commit.
use Rattle.std.proofs.Common.{◌≡◌, ℕ, ◌+◌, Bool, true, false, nat_lt, List, [], Option, Some, None, Result, Ok, Err, refl, sym, ap, ◌∙◌, arith, cond}
use Rattle.oc_bytes.specs.Outcome.{cap_at_u64}
use Rattle.path_tree.specs.Trees.{Tree}
use Rattle.path_tree.specs.Edits.{apply_all}
use Rattle.path_tree.specs.declared.tree.Edit.{Edit}
use Rattle.path_tree.specs.declared.tree.EditFault.{EditFault}
use Rattle.generation.specs.Publication.{Passed, limit_of}
use Rattle.generation_catalogue.specs.History.{CatalogueState, outcome_of, put_bytes, unless_edit as number_unless_edit, unless_limit as number_unless_limit}
use Rattle.generation_catalogue.specs.declared.entry.Refusal.{Refusal}
use Rattle.generation_catalogue.specs.declared.entry.Refusal.TheVariants as refusals
use Rattle.folder_playout.specs.Readings.{judged, unless_fault, unless_limit}

-- the number of a tree that is accepted
abbrev pub numbered : Result Tree Refusal → Result ℕ Refusal
numbered (Ok tree) = Ok 1
numbered (Err refusal) = Err refusal

by_limit : (tree : Tree) (p : Option Passed) → numbered (unless_limit tree p) ≡ number_unless_limit 1 p
by_limit tree (Some p) = refl
by_limit tree None = refl

by_edits : (r : Result Tree (ℕ × EditFault)) → numbered (unless_fault r) ≡ number_unless_edit 1 r
by_edits (Err fault) = refl
by_edits (Ok tree) = by_limit tree (limit_of tree)

by_size : (n : ℕ) (full : Bool) (edits : List Edit)
    → numbered (cond full (Err (refusals.JournalFull (cap_at_u64 n))) (unless_fault (apply_all [] edits))) ≡ cond full (Err (refusals.JournalFull (cap_at_u64 n))) (number_unless_edit 1 (apply_all [] edits))
by_size n true edits = refl
by_size n false edits = by_edits (apply_all [] edits)

abbrev pub no_entries : ℕ → List ℕ → CatalogueState
no_entries carousel weights = record { carousel = carousel; weights = weights; entries = [] }

first_is : (carousel : ℕ) (weights : List ℕ) (edits : List Edit) → numbered (judged edits) ≡ outcome_of (no_entries carousel weights) edits
first_is carousel weights edits =
    let none : 0 + put_bytes edits ≡ put_bytes edits = omega arith in
    by_size (put_bytes edits) (nat_lt 536870912 (put_bytes edits)) edits
    ∙ ap (λ n. cond (nat_lt 536870912 n) (Err (refusals.JournalFull (cap_at_u64 n))) (number_unless_edit 1 (apply_all [] edits))) (sym none)

outcome_is : (c : CatalogueState) (edits : List Edit) → c.entries ≡ [] → numbered (judged edits) ≡ outcome_of c edits
outcome_is c edits e = first_is c.carousel c.weights edits ∙ ap (λ es. outcome_of (record { carousel = c.carousel; weights = c.weights; entries = es }) edits) (sym e)

pub accepted_first : (c : CatalogueState) (edits : List Edit) (tree : Tree) → c.entries ≡ [] → judged edits ≡ Ok tree → outcome_of c edits ≡ Ok 1
accepted_first c edits tree e j = sym (outcome_is c edits e) ∙ ap numbered j

pub refused_first : (c : CatalogueState) (edits : List Edit) (refusal : Refusal) → c.entries ≡ [] → judged edits ≡ Err refusal → outcome_of c edits ≡ Err refusal
refused_first c edits refusal e j = sym (outcome_is c edits e) ∙ ap numbered j
