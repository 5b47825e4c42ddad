-- One element more at the end of a list.
use Rattle.std.proofs.Common.{◌≡◌, ℕ, zero, suc, List, [], ◌∷◌, ◌++◌, length, Some, slice_get, refl, ap, sym, ◌∙◌, arith, ◌⊎◌, inl, inr, ⊎_elim}
use Rattle.shot_board.specs.Shots.{AreNumbered}

module _ {A : Type 0} where
  pub get_last : (xs : List A) (x : A) (n : ℕ) → length xs ≡ n → slice_get (xs ++ x ∷ []) n ≡ Some x
  get_last [] x zero e = refl
  get_last [] x (suc n) e = absurd (omega arith)
  get_last (y ∷ ys) x zero e = absurd (omega arith)
  get_last (y ∷ ys) x (suc n) e = get_last ys x n (omega arith)

  -- whatever stands in the longer list stood in the shorter, or is the new element at its end
  pub get_push : (xs : List A) (x y : A) (k : ℕ) → slice_get (xs ++ x ∷ []) k ≡ Some y → (slice_get xs k ≡ Some y) ⊎ ((k ≡ length xs) × (y ≡ x))
  get_push [] x y zero h = inr (refl, cc)
  get_push [] x y (suc k) h = absurd cc
  get_push (z ∷ zs) x y zero h = inl h
  get_push (z ∷ zs) x y (suc k) h = ⊎_elim (λ here. inl here) (λ (t : (k ≡ length zs) × (y ≡ x)). inr (omega arith, t.1)) (get_push zs x y k h)

  pub numbered_push : (number : A → ℕ) (xs : List A) (x : A) → AreNumbered number xs → number x ≡ length xs → AreNumbered number (xs ++ x ∷ [])
  numbered_push number xs x before here k y at =
      ⊎_elim (before k y) (λ (t : (k ≡ length xs) × (y ≡ x)). ap number t.1 ∙ (here ∙ sym t.0)) (get_push xs x y k at)
