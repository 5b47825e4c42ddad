-- The keys of a generation's objects are apart and small: those that are kept, and those that are free.
use Rattle.std.proofs.Common.{◌≡◌, ℕ, ◌≢◌, zero, suc, ◌+◌, ◌/◌, ◌%◌, ◌<◌, ◌≤◌, Bool, true, false, not, ◌==◌, List, [], ◌∷◌, length, map, Option, Some, None, refl, sym, ◌∙◌, ap, subst, arith, get_or, inl, inr, ◌++◌, cond, add-zero}
use Rattle.generation.proofs.Words.{All, list_any, range_with_len, filter, find, and_parts, not-true, cond_both, cases_Bool, cases_eq, eq-eqb, ne_eqb, false_from_ne_true, same_Some, All-cons, All-head, All-tail, same_name, same_name-is, same_name-refl, same_path-is, AreRising, placed_at, old_keys, taken_in, free_keys, fill_keys, keys_of, is_same_spot, key_bytes, Spot, Placed, all_unmap, option_cases, Contains}
use Rattle.path_tree.proofs.CallerLemmas.{less_differ}
use Rattle.std.proofs.lemmas.List.Folds.{list_any_at}

-- each number once
abbrev pub Distinct : List ℕ → Type 0
Distinct [] = Unit {0}
Distinct (k ∷ ks) = All (λ j. k ≢ j) ks × Distinct ks

-- ---- filling

filled_all : (P : ℕ → Type 0) (keys : List (Option ℕ)) (free : List ℕ) → All P (taken_in keys) → All P free → All P (fill_keys keys free)
filled_all P [] free ak af = λ i d lt. absurd (omega arith)
filled_all P (Some k ∷ keys) free ak af = All-cons P k (fill_keys keys free) (All-head P k (taken_in keys) ak) (filled_all P keys free (All-tail P k (taken_in keys) ak) af)
filled_all P (None ∷ keys) [] ak af = λ i d lt. absurd (omega arith)
filled_all P (None ∷ keys) (f ∷ free) ak af = All-cons P f (fill_keys keys free) (All-head P f free af) (filled_all P keys free ak (All-tail P f free af))

filled_distinct : (keys : List (Option ℕ)) (free : List ℕ) → Distinct (taken_in keys) → Distinct free → All (λ f. All (λ j. j ≢ f) (taken_in keys)) free → Distinct (fill_keys keys free)
filled_distinct [] free dk df apart = tt
filled_distinct (Some k ∷ keys) free dk df apart = (
  filled_all (λ j. k ≢ j) keys free dk.0 (λ i d lt. apart i d lt 0 k (omega arith)),
  filled_distinct keys free dk.1 df (λ i d lt. All-tail (λ j. j ≢ get_or free i d) k (taken_in keys) (apart i d lt)),
)
filled_distinct (None ∷ keys) [] dk df apart = tt
filled_distinct (None ∷ keys) (f ∷ free) dk df apart = (
  filled_all (λ j. f ≢ j) keys free (λ i d lt e. apart 0 f (omega arith) i d lt (sym e)) df.0,
  filled_distinct keys free dk df.1 (λ i d lt. apart (suc i) d (omega arith)),
)

-- ---- free numbers

free_all : (P : ℕ → Type 0) (test : ℕ → Bool) (a n : ℕ) → ((k : ℕ) → a ≤ k → k < a + n → test k ≡ true → P k) → All P (filter test (range_with_len a n))
free_all P test a zero h = λ i d lt. absurd (omega arith)
free_all P test a (suc n) h =
    let rest = filter test (range_with_len (a + 1) n) in
    let all = free_all P test (a + 1) n (λ k l m t. h k (omega arith) (omega arith) t) in
    cond_both (test a) (a ∷ rest) rest (All P) (λ e. All-cons P a rest (h a (omega arith) (omega arith) e) all) (λ _. all)

free_distinct : (test : ℕ → Bool) (a n : ℕ) → Distinct (filter test (range_with_len a n))
free_distinct test a zero = tt
free_distinct test a (suc n) =
    let rest = filter test (range_with_len (a + 1) n) in
    let d = free_distinct test (a + 1) n in
    cond_both (test a) (a ∷ rest) rest Distinct (λ _. (free_all (λ j. a ≢ j) test (a + 1) n (λ k l m t e. omega arith), d)) (λ _. d)

not_any : (f : ℕ) (ks : List ℕ) → list_any (λ j. j == f) ks ≡ false → All (λ j. j ≢ f) ks
not_any f ks e = λ i d lt same. let yes = list_any_at (λ j. j == f) ks i d lt (eq-eqb (get_or ks i d) f same) in cc

-- ---- kept keys

-- what is found is one of all, and passes the test
pub found_in : {A : Type 0} (p : A → Bool) (xs : List A) (o : A) → find p xs ≡ Some o → Contains xs o × (p o ≡ true)
found_in p [] o e = cc
found_in p (x ∷ xs) o e = elim (cases_Bool (p x)) [
  | inl h ↦ let is = same_Some x o (rw h at e) in ((0, omega arith, is), subst (λ z. p z ≡ true) is h)
  | inr h ↦ let r = found_in p xs o (rw h at e) in ((suc r.0.0, omega (arith, r.0.1), r.0.2), r.1)
]

pub found_is : {A : Type 0} (P : A → Type 0) (p : A → Bool) (xs : List A) → All P xs → (o : A) → find p xs ≡ Some o → P o × (p o ≡ true)
found_is P p xs all o e = let found = found_in p xs o e in (subst P found.0.2 (all found.0.0 o found.0.1), found.1)

pub same_there : (a b : Spot) → is_same_spot a b ≡ true → a.path ≡ b.path
same_there a b e = same_path-is a.path b.path (and_parts _ _ e).0

-- objects with one key are one object
one_object : (old : List Placed) → Distinct (map (λ x. x.key) old) → (o r : Placed) → Contains old o → Contains old r → o.key ≡ r.key → o ≡ r
one_object [] d o r (i, lt, e) inside same = absurd (omega arith)
one_object (x ∷ xs) d o r (zero, lt, e) (zero, below, f) same = sym e ∙ f
one_object (x ∷ xs) d o r (zero, lt, e) (suc j, below, f) same =
    absurd (all_unmap (λ k. x.key ≢ k) (λ y. y.key) xs d.0 j r (omega arith) (ap (λ y. y.key) e ∙ same ∙ ap (λ y. y.key) (sym f)))
one_object (x ∷ xs) d o r (suc i, lt, e) (zero, below, f) same =
    absurd (all_unmap (λ k. x.key ≢ k) (λ y. y.key) xs d.0 i o (omega arith) (ap (λ y. y.key) f ∙ sym same ∙ ap (λ y. y.key) (sym e)))
one_object (x ∷ xs) d o r (suc i, lt, e) (suc j, below, f) same = one_object xs d.1 o r (i, omega arith, e) (j, omega arith, f) same

kept_all : (P : ℕ → Type 0) (old : List Placed) (spots : List Spot) → ((i : ℕ) (d : Spot) → i < length spots → (o : Placed) → placed_at old (get_or spots i d) ≡ Some o → P o.key)
    → All P (taken_in (old_keys old spots))
kept_all P old [] h = λ i d lt. absurd (omega arith)
kept_all P old (s ∷ ss) h =
    let rest = kept_all P old ss (λ i d lt. h (suc i) d (omega arith)) in
    elim (option_cases (placed_at old s)) [ inl f ↦ rw f.1 (All-cons P f.0.key (taken_in (old_keys old ss)) (h 0 s (omega arith) f.0 f.1) rest) | inr none ↦ rw none rest ]

kept_distinct : (old : List Placed) → Distinct (map (λ x. x.key) old) → (spots : List Spot) → AreRising spots → Distinct (taken_in (old_keys old spots))
kept_distinct old d [] rising = tt
kept_distinct old d (s ∷ ss) rising =
    let rest = kept_distinct old d ss rising.1 in
    elim (option_cases (placed_at old s)) [
      | inl f ↦ rw f.1 (
        kept_all (λ j. f.0.key ≢ j) old ss (λ i e lt q found same.
            let at = found_in (λ x. is_same_spot x.spot s) old f.0 f.1 in
            let there = found_in (λ x. is_same_spot x.spot (get_or ss i e)) old q found in
            less_differ s.path (get_or ss i e).path (rising.0 i e lt)
            (sym (same_there f.0.spot s at.1) ∙ ap (λ x. x.spot.path) (one_object old d f.0 q at.0 there.0 same) ∙ same_there q.spot (get_or ss i e) there.1)),
        rest,
      )
      | inr none ↦ rw none rest
    ]

-- ---- the keys

pub keys_distinct : (old : List Placed) (spots : List Spot) → Distinct (map (λ x. x.key) old) → AreRising spots → Distinct (keys_of old spots)
keys_distinct old spots d rising =
    let taken = taken_in (old_keys old spots) in
    let test : ℕ → Bool = λ k. not (list_any (λ j. j == k) taken) in
    filled_distinct (old_keys old spots) (free_keys taken (length spots)) (kept_distinct old d spots rising) (free_distinct test 2 (length spots))
    (free_all (λ f. All (λ j. j ≢ f) taken) test 2 (length spots) (λ k l m t. not_any k taken (not-true (list_any (λ j. j == k) taken) t)))

pub keys_small : (old : List Placed) (spots : List Spot) → All (λ o. o.key < 8194) old → length spots ≤ 8192 → All (λ k. k < 8194) (keys_of old spots)
keys_small old spots small few =
    let taken = taken_in (old_keys old spots) in
    filled_all (λ k. k < 8194) (old_keys old spots) (free_keys taken (length spots))
    (kept_all (λ k. k < 8194) old spots (λ i d lt o e. (found_is (λ q. q.key < 8194) (λ x. is_same_spot x.spot (get_or spots i d)) old small o e).0))
    (free_all (λ k. k < 8194) (λ k. not (list_any (λ j. j == k) taken)) 2 (length spots) (λ k l m t. omega arith))

pub same_keys : (a b : ℕ) → a < 8194 → b < 8194 → same_name (key_bytes a) (key_bytes b) ≡ (a == b)
same_keys a b la lb = elim (cases_eq a b) [
  | inl is ↦ subst (λ z. same_name (key_bytes a) (key_bytes z) ≡ (a == z)) is (same_name-refl (key_bytes a) ∙ sym (eq-eqb a a refl))
  | inr ne ↦ false_from_ne_true (same_name (key_bytes a) (key_bytes b)) (λ h.
      let lists = same_name-is (key_bytes a) (key_bytes b) h in
      let low : a % 256 ≡ b % 256 = ap (λ l. get_or l 3 0) lists in
      let high : a / 256 % 256 ≡ b / 256 % 256 = ap (λ l. get_or l 2 0) lists in
      ne (omega (arith, low, high, la, lb))) ∙ sym (ne_eqb a b ne)
]

-- ---- keys one after another, as the code goes through them

pub range_more : (a n : ℕ) → range_with_len a (suc n) ≡ range_with_len a n ++ (a + n) ∷ []
range_more a zero = ap (λ k. k ∷ []) (sym (add-zero a))
range_more a (suc n) = ap (λ ks. a ∷ ks) (range_more (a + 1) n ∙ ap (λ k. range_with_len (a + 1) n ++ k ∷ []) (omega arith))

-- of marks that say which numbers are taken
pub free_is : (taken : List ℕ) (marks : List Bool) (a n : ℕ) → ((k : ℕ) → k < a + n → get_or marks k false ≡ list_any (λ j. j == k) taken)
    → filter (λ k. not (get_or marks k false)) (range_with_len a n) ≡ filter (λ k. not (list_any (λ j. j == k) taken)) (range_with_len a n)
free_is taken marks a zero known = refl
free_is taken marks a (suc n) known =
    let rest = free_is taken marks (a + 1) n (λ k lt. known k (omega (arith, lt))) in
    λ i. cond (not (known a (omega arith) i)) (a ∷ rest i) (rest i)
