-- The exchange that adds a value to the book keeps the rule.
use Rattle.std.proofs.Common.{◌≡◌, ℕ, ◌+◌, ◌<◌, ◌==◌, Bool, true, false, List, [], ◌∷◌, ◌++◌, length, refl, ap, sym, ◌∙◌, subst, arith, inl, length-append, None, MatchBool, eq-eqb}
use Rattle.std.proofs.lemmas.List.{append-nil}
use Rattle.std.proofs.lemmas.Bool.Decides.{nat_tests}
use mathlib.Core.List.{IsPrefix}
use prog.Atomic.{either}
use Rattle.logbook.specs.Pages.{Cell, cell, keeps, no_nib, step, Moves, Goes}
use Rattle.shot_board.specs.Shots.{AreNumbered}
use Rattle.shot_board.specs.Inner.Shots.{IsKept, Adds}
use Rattle.shot_board.proofs.Prefixes.{prefix_whole}
use Rattle.shot_board.proofs.Lists.{numbered_push}

module _ {S : Type 0} (number : S → ℕ) where
  abbrev pub shown : List S → List S
  shown log = []

  abbrev pub moved : List S → List S → ℕ → Type 0
  moved xs ys n = Unit {0}

  pub adds_goes : (log v : List S) (e : S) (old : ℕ) → length v ≡ old → number e ≡ old → IsPrefix v log → AreNumbered number log
      → (b : Bool) → (length log == old) ≡ b
      → Goes (IsKept number) shown moved 0 (v, (no_nib, None)) (λ n. either (n == old) (old + 1) n) (Adds (step 0 old (old + 1) e) (v, (no_nib, None))) ((length log, true) ∷ (0, true) ∷ []) log
  adds_goes log v e old len num pre all true is =
      let here : length log ≡ old = grind (arith, nat_tests) in
      let same : v ≡ log = prefix_whole v log pre (omega arith) in
      let n : either (length log == old) (old + 1) (length log) ≡ length (log ++ e ∷ []) = rw is (omega (arith, length-append log (e ∷ []))) in (
        keeps,
        e ∷ [],
        None,
        tt,
        record { words = ap (λ (k : ℕ). (k, true) ∷ (0, true) ∷ []) n; numbers = numbered_push number log e all (num ∙ sym here) },
        inl (refl, refl),
        rw is (ap (λ w. w ++ e ∷ []) (sym same)),
      )
  adds_goes log v e old len num pre all false is =
      let whole : log ++ [] ≡ log = append-nil log in
      let n : either (length log == old) (old + 1) (length log) ≡ length (log ++ []) = rw is (ap length (sym whole)) in (
        keeps,
        [],
        None,
        tt,
        record { words = ap (λ (k : ℕ). (k, true) ∷ (0, true) ∷ []) n; numbers = subst (AreNumbered number) (sym whole) all },
        inl (refl, refl),
        rw is (ap length whole),
      )

  -- The list that was seen has `old` values, and the value to be added has that number
  pub adds_moves : (v : List S) (e : S) (old new : ℕ) → length v ≡ old → number e ≡ old → new ≡ old + 1
      → Moves (IsKept number) shown moved 0 (v, (no_nib, None)) (λ n. either (n == old) new n) (Adds (step 0 old new e) (v, (no_nib, None)))
  adds_moves v e old new len num up = subst (λ (k : ℕ). Moves (IsKept number) shown moved 0 (v, (no_nib, None)) (λ n. either (n == old) k n) (Adds (step 0 old k e) (v, (no_nib, None)))) (sym up) (at_next v e old len num)
    where
      at_next : (v : List S) (e : S) (old : ℕ) → length v ≡ old → number e ≡ old → Moves (IsKept number) shown moved 0 (v, (no_nib, None)) (λ n. either (n == old) (old + 1) n) (Adds (step 0 old (old + 1) e) (v, (no_nib, None)))
      at_next v e old len num cs log kept pre away =
          let P : List Cell → Type 0 = λ c. (0 < length c) × ((cell c 0).1 ≡ true) × Goes (IsKept number) shown moved 0 (v, (no_nib, None)) (λ n. either (n == old) (old + 1) n) (Adds (step 0 old (old + 1) e) (v, (no_nib, None))) c log in
          subst P (sym kept.words) (omega arith, refl, adds_goes log v e old len num pre kept.numbers (length log == old) refl)

-- what an exchange tells that found what it expected
pub added_log : {S : Type 0} (old found : ℕ) (e : S) (v w : List S) → MatchBool (found == old) (w ≡ v ++ e ∷ []) (length w ≡ found) → found ≡ old → w ≡ v ++ e ∷ []
added_log old found e v w told is = subst (λ (z : Bool). MatchBool z (w ≡ v ++ e ∷ []) (length w ≡ found)) (eq-eqb found old is) told
