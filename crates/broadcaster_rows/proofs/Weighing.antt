-- Weights of which module 1 has one, and every other module another.
use Rattle.std.proofs.Common.{◌≡◌, ℕ, zero, suc, ◌-◌, ◌≤◌, ◌==◌, cond, Bool, ◌∷◌, arith, replicate, refl, sym, ap, ◌∙◌, subst, get_or}
use Rattle.std.proofs.lemmas.Bool.{ne_eqb}
use Rattle.std.specs.List.{All}
use Rattle.std.proofs.lemmas.List.{get_or-replicate, length-replicate}
use Rattle.cycle_planner.specs.Weights.{weight, AreWeights}

abbrev pub InRange : ℕ → Type 0
InRange w = (1 ≤ w) × (w ≤ 8)

pub are_weights : (first others : ℕ) → InRange first → InRange others → AreWeights (first ∷ replicate 2223 others)
are_weights first others one other = record { number = ap suc (length-replicate {A = ℕ} 2223 others); range = each }
  where
    each : All InRange (first ∷ replicate 2223 others)
    each zero d h = one
    each (suc k) d h = subst InRange (sym (get_or-replicate {A = ℕ} 2223 k others d (omega (arith, h, length-replicate {A = ℕ} 2223 others)))) other

less_one : (k : ℕ) → suc k ≡ suc (suc k) - 1
less_one k = omega arith

later : (first others k : ℕ) → ◌≡◌ {A = ℕ} (cond (suc (suc k) == 1) first others) others
later first others k =
    let pick : Bool → ℕ = λ b. cond b first others in
    ap pick (ne_eqb (suc (suc k)) 1 (omega arith))

pub weighs : (first others m : ℕ) → 1 ≤ m → m ≤ 2224 → cond (m == 1) first others ≡ weight (first ∷ replicate 2223 others) m
weighs first others zero low high = absurd (omega arith)
weighs first others (suc zero) low high = refl
weighs first others (suc (suc k)) low high =
    later first others k ∙ sym (get_or-replicate {A = ℕ} 2223 k others 1 (omega (arith, high))) ∙ ap (λ (n : ℕ). get_or (first ∷ replicate 2223 others) n 1) (less_one k)
