-- Lists that are filtered, counted and put together, and what stands in them.
use Rattle.history_merge.proofs.Words.{◌≡◌, ℕ, suc, Bool, true, false, cond, List, [], ◌∷◌, ◌++◌, length, filter, Some, slice_get, ap, refl, arith, count_by, sum_by-append, Each}

module _ {A : Type 0} where
  pub filter_takes : (p : A → Bool) (x : A) (xs : List A) → p x ≡ true → filter p (x ∷ xs) ≡ x ∷ filter p xs
  filter_takes p x xs h = ap (λ (b : Bool). cond b (x ∷ filter p xs) (filter p xs)) h

  pub filter_skips : (p : A → Bool) (x : A) (xs : List A) → p x ≡ false → filter p (x ∷ xs) ≡ filter p xs
  filter_skips p x xs h = ap (λ (b : Bool). cond b (x ∷ filter p xs) (filter p xs)) h

  pub count_more : (p : A → Bool) (x : A) (xs : List A) → p x ≡ true → count_by p (x ∷ xs) ≡ suc (count_by p xs)
  count_more p x xs h = let a = sum_by-append (λ (y : A). cond {A = ℕ} (p y) 1 0) (x ∷ []) xs in let b : cond {A = ℕ} (p x) 1 0 ≡ 1 = ap (λ (c : Bool). cond {A = ℕ} c 1 0) h in omega arith

  pub count_same : (p : A → Bool) (x : A) (xs : List A) → p x ≡ false → count_by p (x ∷ xs) ≡ count_by p xs
  count_same p x xs h = let a = sum_by-append (λ (y : A). cond {A = ℕ} (p y) 1 0) (x ∷ []) xs in let b : cond {A = ℕ} (p x) 1 0 ≡ 0 = ap (λ (c : Bool). cond {A = ℕ} c 1 0) h in omega arith

  pub each_append : (Q : A → Type 0) (xs ys : List A) → Each Q xs → Each Q ys → Each Q (xs ++ ys)
  each_append Q [] ys h k = k
  each_append Q (x ∷ xs) ys h k = (h.0, each_append Q xs ys h.1 k)

  -- what stands behind a list
  pub get_next : (xs ys : List A) (x : A) → slice_get (xs ++ x ∷ ys) (length xs) ≡ Some x
  get_next [] ys x = refl
  get_next (y ∷ xs) ys x = get_next xs ys x
