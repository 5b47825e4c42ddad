-- Placements that are worked out by hand.
use Rattle.std.proofs.Common.{◌≡◌, List, [], ◌∷◌, ℕ, ◌≤◌, Some, None, refl, sym, subst, lit<, lit≤}
use Rattle.std.proofs.lemmas.Option.{same_Some}
use Rattle.std.proofs.lemmas.List.Elements.{All-from_recursion}
use Rattle.module_groups.specs.declared.TheConstants.{GREATEST_ID}
use Rattle.module_packer.specs.Kept.{Placed, AreObjects, kept_modules, least_with}

abbrev pub grown : List Placed
grown = (117, Some 1) ∷ (65500, Some 1) ∷ (500, Some 2) ∷ (65537, Some 3) ∷ (400, Some 2) ∷ []

pub grown_are : AreObjects GREATEST_ID grown
grown_are = record {
  some = lit< tt;
  few = lit≤ tt;
  first = λ m e. sym (same_Some 1 m e);
  old = All-from_recursion Was grown
      (in_range 1 (lit≤ tt) (lit≤ tt), (in_range 1 (lit≤ tt) (lit≤ tt), (in_range 2 (lit≤ tt) (lit≤ tt), (in_range 3 (lit≤ tt) (lit≤ tt), (in_range 2 (lit≤ tt) (lit≤ tt), tt)))));
} where
  Was : Placed → Type 0
  Was o = (m : ℕ) → o.1 ≡ Some m → (1 ≤ m) × (m ≤ GREATEST_ID)

  in_range : (n : ℕ) → 1 ≤ n → n ≤ GREATEST_ID → (m : ℕ) → Some n ≡ Some m → (1 ≤ m) × (m ≤ GREATEST_ID)
  in_range n low high m e = subst (λ k. (1 ≤ k) × (k ≤ GREATEST_ID)) (same_Some n m e) (low, high)

-- the second object grows, and goes to a new module; the others stay
one_grows : kept_modules GREATEST_ID grown ≡ 1 ∷ 4 ∷ 2 ∷ 3 ∷ 2 ∷ []
unfolding kept_modules least_with
one_grows = refl

-- a number that became free is used again
one_leaves : kept_modules GREATEST_ID ((117, Some 1) ∷ (65000, Some 3) ∷ (65537, None) ∷ (600, None) ∷ []) ≡ 1 ∷ 3 ∷ 2 ∷ 1 ∷ []
unfolding kept_modules least_with
one_leaves = refl

-- where a module above the limit would be needed, all are placed afresh
none_left : kept_modules 2 ((100, Some 1) ∷ (30000, Some 2) ∷ (65536, None) ∷ []) ≡ 1 ∷ 1 ∷ 2 ∷ []
unfolding kept_modules least_with
none_left = refl
