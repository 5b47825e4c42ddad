-- What stands at a place of a list, how a list begins, and counts.
use Rattle.session.proofs.Words.{◌≡◌, ◌≢◌, ℕ, zero, suc, ◌+◌, ◌<◌, ◌≤◌, Bool, true, false, cond, List, [], ◌∷◌, ◌++◌, length, filter, Some, map, map-append, slice_get, count_by, ◌⊎◌, inl, inr, sym, ap, ◌∙◌, refl, arith, append_assoc, append-nil, length-append, ne_eqb, sum_by-append, cond_both, cases_Bool, Begins, times, total, once_within, Each, filter_takes, filter_skips, dite, ℕ_discrete, subst, slice_index_or, slice_set, get_or_push, get_or_append_left, get_or-set_at, get_or-set_other, length-set, get_or_default, EachAt}
use Rattle.std.proofs.lemmas.Bool.Decides.{nat_tests}

module _ {A : Type 0} where
  pub get_one : (xs : List A) (k : ℕ) (x y : A) → slice_get xs k ≡ Some x → slice_get xs k ≡ Some y → x ≡ y
  get_one xs k x y h g = let e : Some x ≡ Some y = sym h ∙ g in cc

  pub get_front : (xs ys : List A) (k : ℕ) (e : A) → slice_get xs k ≡ Some e → slice_get (xs ++ ys) k ≡ Some e
  get_front [] ys k e h = absurd (cc)
  get_front (x ∷ xs) ys zero e h = h
  get_front (x ∷ xs) ys (suc k) e h = get_front xs ys k e h

  pub get_behind : (xs ys : List A) (k : ℕ) (e : A) → slice_get ys k ≡ Some e → slice_get (xs ++ ys) (length xs + k) ≡ Some e
  get_behind [] ys k e h = ap (slice_get ys) (same k) ∙ h
    where
      same : (k : ℕ) → 0 + k ≡ k
      same k = omega arith
  get_behind (x ∷ xs) ys k e h = ap (slice_get (x ∷ (xs ++ ys))) (later (length xs) k) ∙ get_behind xs ys k e h
    where
      later : (n k : ℕ) → suc n + k ≡ suc (n + k)
      later n k = omega arith

  -- in a list with one element more
  pub get_last : (xs : List A) (x y : A) (k : ℕ) → slice_get (xs ++ x ∷ []) k ≡ Some y → (slice_get xs k ≡ Some y) ⊎ (y ≡ x)
  get_last [] x y zero h = inr (cc)
  get_last [] x y (suc k) h = absurd (cc)
  get_last (z ∷ zs) x y zero h = inl h
  get_last (z ∷ zs) x y (suc k) h = get_last zs x y k h

  pub each_from_get : (P : A → Type 0) (xs : List A) → ((k : ℕ) (e : A) → slice_get xs k ≡ Some e → P e) → Each P xs
  each_from_get P [] h = tt
  each_from_get P (x ∷ xs) h = (h 0 x refl, each_from_get P xs (λ k. h (suc k)))

  -- none passes the test
  pub none_pass : (p : A → Bool) (xs : List A) → ((k : ℕ) (e : A) → slice_get xs k ≡ Some e → p e ≡ true → ⊥) → filter p xs ≡ []
  none_pass p [] h = refl
  none_pass p (x ∷ xs) h = cond_both (p x) (x ∷ filter p xs) (filter p xs) (λ l. l ≡ []) (λ is. absurd (h 0 x refl is)) (λ _. none_pass p xs (λ k. h (suc k)))

  pub first_fails : (p : A → Bool) (x : A) (xs : List A) → filter p (x ∷ xs) ≡ [] → (p x ≡ false) × (filter p xs ≡ [])
  first_fails p x xs h = elim (cases_Bool (p x)) [
    | inl is ↦ let e : x ∷ filter p xs ≡ [] = sym (filter_takes p x xs is) ∙ h in absurd (cc)
    | inr is ↦ (is, sym (filter_skips p x xs is) ∙ h)
  ]

  -- ---- how a list begins

  pub begins_self : (xs : List A) → Begins xs xs
  begins_self xs = ([], sym (append-nil xs))

  pub begins_more : (xs ys : List A) → Begins xs (xs ++ ys)
  begins_more xs ys = (ys, refl)

  pub begins_on : (xs ys zs : List A) → Begins xs ys → Begins ys zs → Begins xs zs
  begins_on xs ys zs a b = (a.0 ++ b.0, b.1 ∙ ap (λ l. l ++ b.0) a.1 ∙ append_assoc xs a.0 b.0)

  pub begins_le : (xs ys : List A) → Begins xs ys → length xs ≤ length ys
  begins_le xs ys a = let e = ap length a.1 in let l = length-append xs a.0 in omega arith

  pub begins_get : (xs ys : List A) (k : ℕ) (e : A) → Begins xs ys → slice_get xs k ≡ Some e → slice_get ys k ≡ Some e
  begins_get xs ys k e b h = ap (λ l. slice_get l k) b.1 ∙ get_front xs b.0 k e h

  -- ---- sums

  pub total_some : (f : A → ℕ) (l : List A) → 0 < total f l → (i : ℕ) × (x : A) × (slice_get l i ≡ Some x) × (0 < f x)
  total_some f [] h = absurd (omega arith)
  total_some f (x ∷ xs) h = by (total_some f xs) (f x) refl
    where
      by : (0 < total f xs → (i : ℕ) × (y : A) × (slice_get xs i ≡ Some y) × (0 < f y)) → (n : ℕ) → f x ≡ n
          → (i : ℕ) × (y : A) × (slice_get (x ∷ xs) i ≡ Some y) × (0 < f y)
      by rest zero e = let r = rest (omega (arith, e, h)) in (suc r.0, r.1, r.2, r.3)
      by rest (suc n) e = (0, x, refl, omega (arith, e))

  pub count_append : (p : A → Bool) (xs ys : List A) → count_by p (xs ++ ys) ≡ count_by p xs + count_by p ys
  count_append p xs ys = sum_by-append (λ y. cond {A = ℕ} (p y) 1 0) xs ys

-- ---- what is so at each place

module _ {A : Type 0} (P : ℕ → A → Type 0) (xs : List A) where
  pub each_push : (x : A) → EachAt P xs → P (length xs) x → EachAt P (xs ++ x ∷ [])
  each_push x all last = λ k d lt. dite (ℕ_discrete k (length xs))
      (λ e. subst (P k) (sym (get_or_push xs x d k (sym e))) (subst (λ (n : ℕ). P n x) (sym e) last))
      (λ ne. let below : k < length xs = let l = length-append xs (x ∷ []) in omega (arith, l, lt, ne) in
      subst (P k) (sym (get_or_append_left xs (x ∷ []) d k below)) (all k d below))

  pub each_set : (i : ℕ) (x : A) → i < length xs → P i x → ((k : ℕ) (d : A) → k < length xs → k ≢ i → P k (slice_index_or xs k d)) → EachAt P (slice_set xs i x)
  each_set i x there here others = λ k d lt. dite (ℕ_discrete k i)
      (λ e. subst (P k) (sym (get_or-set_at xs i k x d e there)) (subst (λ (n : ℕ). P n x) (sym e) here))
      (λ ne. subst (P k) (sym (get_or-set_other xs i k x d ne)) (others k d (let l = length-set xs i x in omega (arith, l, lt)) ne))

pub pushed_count : {A : Type 0} (xs ys : List A) (x : A) → ys ≡ xs ++ x ∷ [] → length ys ≡ length xs + 1
pushed_count xs ys x e = ap length e ∙ length-append xs (x ∷ [])

-- none of the elements so far has this number, and the next one has not either
pub none_more : {A : Type 0} (f : A → ℕ) (n : ℕ) (xs : List A) (i : ℕ) (x : A) → i < length xs → x ≡ slice_index_or xs i x → f x ≢ n → ((k : ℕ) (d : A) → k < i → f (slice_index_or xs k d) ≢ n)
    → (k : ℕ) (d : A) → k < i + 1 → f (slice_index_or xs k d) ≢ n
none_more f n xs i x there is other past k d lt = dite (ℕ_discrete k i)
    (λ e h. other (ap f (is ∙ sym (ap (λ (j : ℕ). slice_index_or xs j d) e ∙ get_or_default xs i d x there)) ∙ h)) (λ ne. past k d (omega (arith, lt, ne)))

pub map_at : {A : Type 0} (f : A → ℕ) (xs : List A) (ns : List ℕ) → length xs ≡ length ns → EachAt (λ k x. f x ≡ slice_index_or ns k 0) xs → map f xs ≡ ns
map_at f [] [] l h = refl
map_at f (x ∷ xs) (n ∷ ns) l h = λ i. h 0 x (omega arith) i ∷ map_at f xs ns (omega (arith, l)) (λ k d lt. h (suc k) d (omega (arith, lt))) i
map_at f [] (n ∷ ns) l h = absurd (omega (arith, l))
map_at f (x ∷ xs) [] l h = absurd (omega (arith, l))

-- one element more, after those that were mapped
pub one_more : {A B : Type 0} (f : A → B) (before : List B) (done : List A) (x : A) → (before ++ map f done) ++ f x ∷ [] ≡ before ++ map f (done ++ x ∷ [])
one_more f before done x = append_assoc before (map f done) (f x ∷ []) ∙ ap (λ l. before ++ l) (sym (map-append f done (x ∷ [])))

-- ---- places

pub times_append : (p : ℕ) (xs ys : List ℕ) → times p (xs ++ ys) ≡ times p xs + times p ys
times_append p [] ys = omega arith
times_append p (x ∷ xs) ys = let h = times_append p xs ys in omega arith

pub times_other : (p q : ℕ) → p ≢ q → times p (q ∷ []) ≡ 0
times_other p q n = let e = ne_eqb p q n in grind (arith, nat_tests)

pub once_inside : (b p : ℕ) → p < b → once_within 0 b p ≡ 1
once_inside b p h = grind (arith, nat_tests)
