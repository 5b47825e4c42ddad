-- What a commit on a new carousel answers.
use Rattle.std.proofs.Common.{◌≡◌, ℕ, ◌<◌, ◌≤◌, Bool, true, false, cond, List, [], Option, Some, None, Ok, Err, refl, ◌∙◌, sym, ap, subst, arith, zero-add}
use Rattle.std.specs.Prelude.{nat_lt, MatchOption, ⊤}
use Rattle.std.proofs.lemmas.Bool.{lt-ltb, ltb-true, ltb-false, le-ltb}
use Rattle.oc_bytes.specs.Outcome.{cap_at_u64}
use Rattle.path_tree.specs.Edits.{apply_all, apply_cause}
use Rattle.path_tree.specs.Trees.{Tree, IsTree}
use Rattle.path_tree.specs.declared.tree.Edit.{Edit}
use Rattle.path_tree.specs.declared.tree.ApplyFault.{ApplyFault}
use Rattle.path_tree.specs.declared.tree.ApplyFault.TheVariants as applies
use Rattle.generation.specs.Publication.{Passed, limit_of}
use Rattle.generation.specs.Limits.{check_of, limit_cause, unless_passed}
use Rattle.generation.specs.declared.limit.Limit.{Limit}
use Rattle.generation.specs.declared.limit.Limit.TheVariants as limits
use Rattle.generation_catalogue.specs.History.{put_bytes, refusal_of, unless_edit, unless_limit}
use Rattle.generation_catalogue.specs.Requests.{commit_cause, of_edits, of_limit}
use Rattle.generation_catalogue.specs.declared.entry.CommitFault.{CommitFault}
use Rattle.generation_catalogue.specs.declared.entry.Refusal.TheVariants as refusals
use Rattle.publication_plan.specs.Plans.{first_outcome}
use Rattle.publication_plan.specs.Inner.Judging.{IsAccepted}

-- the outcome in plain words: the journal is full, an edit is refused, or a limit is passed
pub outcome_is : (carousel : ℕ) (es : List Edit)
    → first_outcome carousel es ≡ cond (nat_lt 536870912 (put_bytes es)) (Err (refusals.JournalFull (cap_at_u64 (put_bytes es)))) (unless_edit 1 (apply_all [] es))
outcome_is carousel es =
    ap (λ n. cond (nat_lt 536870912 n) (Err (refusals.JournalFull (cap_at_u64 n))) (unless_edit 1 (apply_all [] es))) (zero-add (put_bytes es))

capped : (n : ℕ) → nat_lt 536870912 (cap_at_u64 n) ≡ true → nat_lt 536870912 n ≡ true
capped n e = by (nat_lt 536870912 n) refl where
  by : (b : Bool) → nat_lt 536870912 n ≡ b → b ≡ true
  by true f = refl
  by false f =
      let le : n ≤ 536870912 = ltb-false 536870912 n f in
      let lt : 536870912 < cap_at_u64 n = ltb-true 536870912 (cap_at_u64 n) e in
      absurd (omega (arith, le, lt))

few : (n : ℕ) → nat_lt 536870912 (cap_at_u64 n) ≡ false → nat_lt 536870912 n ≡ false
few n e = let le : cap_at_u64 n ≤ 536870912 = ltb-false 536870912 (cap_at_u64 n) e in let le2 : n ≤ 536870912 = omega (arith, le) in le-ltb 536870912 n le2

outcome_full : (carousel : ℕ) (es : List Edit) (total : ℕ) → total ≡ cap_at_u64 (put_bytes es) → nat_lt 536870912 total ≡ true → first_outcome carousel es ≡ Err (refusals.JournalFull total)
outcome_full carousel es total is over =
    let full : nat_lt 536870912 (put_bytes es) ≡ true = capped (put_bytes es) (ap (nat_lt 536870912) (sym is) ∙ over) in
    outcome_is carousel es ∙ rw full (ap (λ n. Err (refusals.JournalFull n)) (sym is))

outcome_small : (carousel : ℕ) (es : List Edit) (total : ℕ) → total ≡ cap_at_u64 (put_bytes es) → nat_lt 536870912 total ≡ false → first_outcome carousel es ≡ unless_edit 1 (apply_all [] es)
outcome_small carousel es total is room =
    let small : nat_lt 536870912 (put_bytes es) ≡ false = few (put_bytes es) (ap (nat_lt 536870912) (sym is) ∙ room) in
    outcome_is carousel es ∙ rw small refl

-- what a fault says of the outcome
abbrev pub SaysWhy : List Edit → CommitFault → Type 0
SaysWhy es f = MatchOption (commit_cause f) ⊤ (λ r. (carousel : ℕ) → first_outcome carousel es ≡ Err r)

pub why_full : (es : List Edit) (total : ℕ) → total ≡ cap_at_u64 (put_bytes es) → 536870912 < total → (carousel : ℕ) → first_outcome carousel es ≡ Err (refusals.JournalFull total)
why_full es total is over carousel = outcome_full carousel es total is (lt-ltb 536870912 total over)

pub why_edit : (es : List Edit) (total : ℕ) (empty : Tree) (f : ApplyFault) (c : CommitFault) → total ≡ cap_at_u64 (put_bytes es) → total ≤ 536870912 → empty ≡ []
    → MatchOption (apply_cause f) ⊤ (λ e. apply_all empty es ≡ Err e) → c ≡ of_edits f → SaysWhy es c
why_edit es total empty (applies.Edit place fault) c is room none applied c_is =
    subst (SaysWhy es) (sym c_is) (λ carousel. outcome_small carousel es total is (le-ltb 536870912 total room) ∙ ap (unless_edit 1) (ap (λ t. apply_all t es) (sym none) ∙ applied))
why_edit es total empty applies.NoMemory c is room none applied c_is = subst (SaysWhy es) (sym c_is) tt

limit_says : (t : Tree) (p : Passed) → check_of t ≡ Err p → unless_limit 1 (limit_of t) ≡ Err (refusal_of p)
limit_says t p e = by (limit_of t) e where
  by : (o : Option Passed) → unless_passed o ≡ Err p → unless_limit 1 o ≡ Err (refusal_of p)
  by None f = cc
  by (Some q) f = let same : q ≡ p = cc in ap (λ x. Err (refusal_of x)) same

pub why_limit : (es : List Edit) (total : ℕ) (empty t : Tree) (l : Limit) (c : CommitFault) → total ≡ cap_at_u64 (put_bytes es) → total ≤ 536870912 → empty ≡ []
    → apply_all empty es ≡ Ok t → MatchOption (limit_cause l) ⊤ (λ p. check_of t ≡ Err p) → c ≡ of_limit l → SaysWhy es c
why_limit es total empty t l c is room none applied checked c_is = subst (SaysWhy es) (sym c_is) (by l checked) where
  outcome : (carousel : ℕ) → first_outcome carousel es ≡ unless_limit 1 (limit_of t)
  outcome carousel = outcome_small carousel es total is (le-ltb 536870912 total room) ∙ ap (unless_edit 1) (ap (λ x. apply_all x es) (sym none) ∙ applied)

  by : (l : Limit) → MatchOption (limit_cause l) ⊤ (λ p. check_of t ≡ Err p) → SaysWhy es (of_limit l)
  by (limits.TooManyObjects n) e = λ carousel. outcome carousel ∙ limit_says t _ e
  by (limits.FolderTooLarge p) e = λ carousel. outcome carousel ∙ limit_says t _ e
  by (limits.TooManyBytes n) e = λ carousel. outcome carousel ∙ limit_says t _ e
  by (limits.TooManyModules n) e = λ carousel. outcome carousel ∙ limit_says t _ e
  by limits.NoMemory e = tt

none_passed : (o : Option Passed) → unless_passed o ≡ Ok 0 → o ≡ None
none_passed None e = refl
none_passed (Some p) e = cc

pub accepted : (es : List Edit) (total : ℕ) (empty t : Tree) → total ≡ cap_at_u64 (put_bytes es) → total ≤ 536870912 → empty ≡ [] → apply_all empty es ≡ Ok t → check_of t ≡ Ok 0 → IsTree t → IsAccepted es t
accepted es total empty t is room none applied checked tree =
    let made : apply_all [] es ≡ Ok t = ap (λ x. apply_all x es) (sym none) ∙ applied in
    let within : limit_of t ≡ None = none_passed (limit_of t) checked in
    record {
      small = few (put_bytes es) (ap (nat_lt 536870912) (sym is) ∙ le-ltb 536870912 total room);
      applied = made;
      publishable = record { tree = tree; within = within };
      outcome = λ carousel. outcome_small carousel es total is (le-ltb 536870912 total room) ∙ ap (unless_edit 1) made ∙ ap (unless_limit 1) within;
    }
