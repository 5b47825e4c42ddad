-- When there is no room for a commit.
use Rattle.session.proofs.Words.{◌≡◌, ℕ, ◌+◌, ◌==◌, Bool, true, false, cond, nat_lt, List, [], ◌∷◌, ◌++◌, length, Option, Some, None, Result, Ok, Err, count_by, ◌⊎◌, inl, inr, sym, ap, ◌∙◌, refl, arith, length-append, eqb-true, ltb-true, sum_by-append, Tree, Edit, HistoriesGrow, CatalogueState, put_bytes, put_bytes_of, journal_of, current_of, trees_of, trees_after, with_tree, last_tree, or_same, outcome_of, unless_edit, unless_limit, is_entered, Entry, is_made, IsFullAfter, count_more, count_same}
use Rattle.oc_bytes.specs.Outcome.{cap_at_u64}
use Rattle.path_tree.specs.Edits.{apply_all}
use Rattle.path_tree.specs.declared.tree.EditFault.{EditFault}
use Rattle.generation.specs.Publication as limits
use Rattle.generation_catalogue.specs.declared.entry.Refusal.TheVariants as refusals
use Rattle.generation_catalogue.specs.declared.entry.Entry.TheVariants as entries
use Rattle.session.proofs.Lists.{count_append}

-- each accepted commit makes a tree
trees_made : (es : List Entry) (ts : List Tree) → length (trees_after ts es) ≡ length ts + count_by is_made es
trees_made [] ts = omega arith
trees_made (entries.Commit editor edits (Ok number) ∷ es) ts = let rest = trees_made es (with_tree ts edits) in
    let one = length-append ts (or_same (last_tree ts) (apply_all (last_tree ts) edits) ∷ []) in
    let more = count_more is_made (entries.Commit editor edits (Ok number)) es refl in omega (arith, rest, one, more)
trees_made (entries.Commit editor edits (Err refusal) ∷ es) ts = trees_made es ts ∙ ap (λ (n : ℕ). length ts + n) (sym (count_same is_made (entries.Commit editor edits (Err refusal)) es refl))
trees_made (entries.Draw asked generation first count ∷ es) ts = trees_made es ts ∙ ap (λ (n : ℕ). length ts + n) (sym (count_same is_made (entries.Draw asked generation first count) es refl))

limit_entered : (number : ℕ) (passed : Option limits.Passed) → is_entered (unless_limit number passed) ≡ true
limit_entered number None = refl
limit_entered number (Some (limits.Objects n)) = refl
limit_entered number (Some (limits.Folder p)) = refl
limit_entered number (Some (limits.Total n)) = refl
limit_entered number (Some (limits.Modules n)) = refl

edit_entered : (number : ℕ) (edited : Result Tree (ℕ × EditFault)) → is_entered (unless_edit number edited) ≡ true
edit_entered number (Ok t) = limit_entered number (limits.limit_of t)
edit_entered number (Err fault) = refl

-- only what finds no room makes no entry
by_tests : (season journal : Bool) (number total : ℕ) (edited : Result Tree (ℕ × EditFault))
    → is_entered (cond season (Err (refusals.SeasonFull 16383)) (cond journal (Err (refusals.JournalFull (cap_at_u64 total))) (unless_edit number edited))) ≡ false
    → (season ≡ true) ⊎ (journal ≡ true)
by_tests true journal number total edited h = inl refl
by_tests false true number total edited h = inr refl
by_tests false false number total edited h = let e : true ≡ false = sym (edit_entered number edited) ∙ h in absurd (cc)

pub not_entered : HistoriesGrow → (c : CatalogueState) (edits : List Edit) → is_entered (outcome_of c edits) ≡ false → IsFullAfter c.entries edits
not_entered grow c edits h = by (by_tests ((current_of c).number == 16383) (nat_lt 536870912 (journal_of c + put_bytes edits)) ((current_of c).number + 1) (journal_of c + put_bytes edits) (apply_all (last_tree (trees_of c)) edits) h)
  where
    by : (((current_of c).number == 16383) ≡ true) ⊎ (nat_lt 536870912 (journal_of c + put_bytes edits) ≡ true) → IsFullAfter c.entries edits
    by (inl season) = let is : (current_of c).number ≡ 16383 = eqb-true (current_of c).number 16383 season in let trees = grow.number c in
        let made = trees_made c.entries [] in inl (omega (arith, is, trees, made))
    by (inr journal) = inr (ltb-true 536870912 (journal_of c + put_bytes edits) journal)

-- with more entries there is no room either
pub full_later : (xs ys : List Entry) (edits : List Edit) → IsFullAfter xs edits → IsFullAfter (xs ++ ys) edits
full_later xs ys edits (inl h) = inl (let a = count_append is_made xs ys in omega (arith, a, h))
full_later xs ys edits (inr h) = inr (let a = sum_by-append put_bytes_of xs ys in omega (arith, a, h))
