-- Lists: what they contain, and the order of their elements.
use Rattle.std.proofs.Common.{ℕ, zero, suc, ◌≡◌, ◌+◌, ◌<◌, ◌⊎◌, inl, inr, Bool, true, false, cond, List, [], ◌∷◌, ◌++◌, length, map, get_or, Option, Some, None, refl, sym, ap, subst, arith, zero-add}
use Rattle.std.specs.Prelude.{slice_get}
use Rattle.std.specs.List.{All, AllPairs, Contains, enumerate_from, filter, flat_map, last_or}
use Rattle.std.proofs.lemmas.List.Elements.{All-append, All-head, All-map, All-tail, All-weaker, Contains-append_cases, Contains-append_left, Contains-append_right}
use Rattle.std.proofs.lemmas.List.Kept.{AllPairs-cons}
use Rattle.std.proofs.lemmas.Option.{same_Some}

-- ---- what a list contains

contains_here : {A : Type 0} (x : A) (xs : List A) → Contains (x ∷ xs) x
contains_here x xs = (0, omega arith, refl)

contains_later : {A : Type 0} (x : A) (xs : List A) (y : A) → Contains xs y → Contains (x ∷ xs) y
contains_later x xs y h = (suc h.0, omega (arith, h.1), h.2)

contains_cases : {A : Type 0} (x : A) (xs : List A) (y : A) → Contains (x ∷ xs) y → (x ≡ y) ⊎ Contains xs y
contains_cases {A} x xs y h = by h.0 h.1 h.2 where
  by : (k : ℕ) → k < length (x ∷ xs) → get_or (x ∷ xs) k y ≡ y → (x ≡ y) ⊎ Contains xs y
  by zero lt e = inl e
  by (suc k) lt e = inr (k, omega (arith, lt), e)

contains_none : {A B : Type 0} (y : A) → Contains [] y → B
contains_none y h = absurd (omega (arith, h.1))

-- ---- where an element of a mapped list comes from

pub record Mapped {A B : Type 0} (f : A → B) (xs : List A) (y : B) : Type 0 where
  pub source : A
  pub among : Contains xs source
  pub gives : f source ≡ y

pub mapped_from : {A B : Type 0} (f : A → B) (xs : List A) (y : B) → Contains (map f xs) y → Mapped f xs y
mapped_from f [] y h = contains_none y h
mapped_from {A} {B} f (x ∷ xs) y h = go (contains_cases (f x) (map f xs) y h) (mapped_from f xs y) where
  go : (f x ≡ y) ⊎ Contains (map f xs) y → (Contains (map f xs) y → Mapped f xs y) → Mapped f (x ∷ xs) y
  go (inl e) more = record { source = x; among = contains_here x xs; gives = e }
  go (inr g) more = let m = more g in record { source = m.source; among = contains_later x xs m.source m.among; gives = m.gives }

pub mapped_to : {A B : Type 0} (f : A → B) (xs : List A) (x : A) → Contains xs x → Contains (map f xs) (f x)
mapped_to f [] x h = contains_none x h
mapped_to {A} {B} f (w ∷ xs) x h = go (contains_cases w xs x h) (mapped_to f xs x) where
  go : (w ≡ x) ⊎ Contains xs x → (Contains xs x → Contains (map f xs) (f x)) → Contains (f w ∷ map f xs) (f x)
  go (inl e) more = subst (λ (z : A). Contains (f w ∷ map f xs) (f z)) e (contains_here (f w) (map f xs))
  go (inr g) more = contains_later (f w) (map f xs) (f x) (more g)

-- ---- of a list of which some elements are kept and mapped

pub record Kept {A B : Type 0} (f : A → B) (test : A → Bool) (xs : List A) (y : B) : Type 0 where
  pub source : A
  pub among : Contains xs source
  pub passes : test source ≡ true
  pub gives : f source ≡ y

pub kept_from : {A B : Type 0} (f : A → B) (test : A → Bool) (xs : List A) (y : B) → Contains (map f (filter test xs)) y → Kept f test xs y
kept_from f test [] y h = contains_none y h
kept_from {A} {B} f test (x ∷ xs) y h = go (test x) refl h (kept_from f test xs y) where
  later : Kept f test xs y → Kept f test (x ∷ xs) y
  later k = record { source = k.source; among = contains_later x xs k.source k.among; passes = k.passes; gives = k.gives }

  here : test x ≡ true → (f x ≡ y) ⊎ Contains (map f (filter test xs)) y → (Contains (map f (filter test xs)) y → Kept f test xs y) → Kept f test (x ∷ xs) y
  here t (inl e) more = record { source = x; among = contains_here x xs; passes = t; gives = e }
  here t (inr g) more = later (more g)

  go : (b : Bool) → test x ≡ b → Contains (map f (cond b (x ∷ filter test xs) (filter test xs))) y → (Contains (map f (filter test xs)) y → Kept f test xs y) → Kept f test (x ∷ xs) y
  go true t g more = here t (contains_cases (f x) (map f (filter test xs)) y g) more
  go false t g more = later (more g)

pub kept_to : {A B : Type 0} (f : A → B) (test : A → Bool) (xs : List A) (x : A) → Contains xs x → test x ≡ true → Contains (map f (filter test xs)) (f x)
kept_to f test [] x h t = contains_none x h
kept_to {A} {B} f test (w ∷ xs) x h t = go (test w) refl (contains_cases w xs x h) (λ g. kept_to f test xs x g t) where
  go : (b : Bool) → test w ≡ b → (w ≡ x) ⊎ Contains xs x → (Contains xs x → Contains (map f (filter test xs)) (f x)) → Contains (map f (cond b (w ∷ filter test xs) (filter test xs))) (f x)
  go true s (inl e) more = subst (λ (z : A). Contains (f w ∷ map f (filter test xs)) (f z)) e (contains_here (f w) (map f (filter test xs)))
  go true s (inr g) more = contains_later (f w) (map f (filter test xs)) (f x) (more g)
  go false s (inl e) more = absurd (cc (s, ap test e, t))
  go false s (inr g) more = more g

-- ---- of lists that are joined

pub record Joined {A B : Type 0} (g : A → List B) (ws : List A) (y : B) : Type 0 where
  pub source : A
  pub among : Contains ws source
  pub within : Contains (g source) y

pub joined_from : {A B : Type 0} (g : A → List B) (ws : List A) (y : B) → Contains (flat_map g ws) y → Joined g ws y
joined_from g [] y h = contains_none y h
joined_from {A} {B} g (w ∷ ws) y h = go (Contains-append_cases (g w) (flat_map g ws) y h) (joined_from g ws y) where
  go : Contains (g w) y ⊎ Contains (flat_map g ws) y → (Contains (flat_map g ws) y → Joined g ws y) → Joined g (w ∷ ws) y
  go (inl h) more = record { source = w; among = contains_here w ws; within = h }
  go (inr h) more = let j = more h in record { source = j.source; among = contains_later w ws j.source j.among; within = j.within }

pub joined_to : {A B : Type 0} (g : A → List B) (ws : List A) (w : A) (y : B) → Contains ws w → Contains (g w) y → Contains (flat_map g ws) y
joined_to g [] w y h k = contains_none w h
joined_to {A} {B} g (v ∷ ws) w y h k = go (contains_cases v ws w h) (λ f. joined_to g ws w y f k) where
  go : (v ≡ w) ⊎ Contains ws w → (Contains ws w → Contains (flat_map g ws) y) → Contains (g v ++ flat_map g ws) y
  go (inl e) more = Contains-append_left (g v) (flat_map g ws) y (subst (λ (z : A). Contains (g z) y) (sym e) k)
  go (inr f) more = Contains-append_right (g v) (flat_map g ws) y (more f)

-- ---- elements with their places

pub record Placed {A : Type 0} (i : ℕ) (xs : List A) (place : ℕ) (x : A) : Type 0 where
  pub at : ℕ
  pub counted : place ≡ i + at
  pub stands : slice_get xs at ≡ Some x

placed_from : {A : Type 0} (i : ℕ) (xs : List A) (place : ℕ) (x : A) → Contains (enumerate_from i xs) (place, x) → Placed i xs place x
placed_from i [] place x h = contains_none (place, x) h
placed_from {A} i (y ∷ ys) place x h = go (contains_cases (i, y) (enumerate_from (i + 1) ys) (place, x) h) (placed_from (i + 1) ys place x) where
  go : ◌≡◌ {A = ℕ × A} (i, y) (place, x) ⊎ Contains (enumerate_from (i + 1) ys) (place, x) → (Contains (enumerate_from (i + 1) ys) (place, x) → Placed (i + 1) ys place x) → Placed i (y ∷ ys) place x
  go (inl e) more = let same : i ≡ place = ap (λ (p : ℕ × A). p.0) e in record { at = 0; counted = omega (arith, same); stands = ap (λ (p : ℕ × A). Some p.1) e }
  go (inr g) more = let r = more g in record { at = suc r.at; counted = omega (arith, r.counted); stands = r.stands }

same_pair : {A B : Type 0} (a b : A) (x y : B) → a ≡ b → x ≡ y → ◌≡◌ {A = A × B} (a, x) (b, y)
same_pair a b x y e f = λ t. (e t, f t)

placed_to : {A : Type 0} (i : ℕ) (xs : List A) (at : ℕ) (x : A) → slice_get xs at ≡ Some x → Contains (enumerate_from i xs) (i + at, x)
placed_to i [] at x e = absurd cc
placed_to {A} i (y ∷ ys) zero x e = (0, omega arith, same_pair i (i + 0) y x (omega arith) (same_Some y x e))
placed_to {A} i (y ∷ ys) (suc at) x e =
    let next : i + 1 + at ≡ i + suc at = omega arith in
    contains_later (i, y) (enumerate_from (i + 1) ys) (i + suc at, x) (subst (λ (n : ℕ). Contains (enumerate_from (i + 1) ys) (n, x)) next (placed_to (i + 1) ys at x e))

-- the element at a place
pub at_place : {A : Type 0} (xs : List A) (place : ℕ) (x : A) → Contains (enumerate_from 0 xs) (place, x) → slice_get xs place ≡ Some x
at_place {A} xs place x h =
    let p = placed_from 0 xs place x h in
    let same : p.at ≡ place = omega (arith, p.counted) in
    subst (λ (n : ℕ). slice_get xs n ≡ Some x) same p.stands

pub with_place : {A : Type 0} (xs : List A) (place : ℕ) (x : A) → slice_get xs place ≡ Some x → Contains (enumerate_from 0 xs) (place, x)
with_place {A} xs place x e = subst (λ (n : ℕ). Contains (enumerate_from 0 xs) (n, x)) (zero-add place) (placed_to 0 xs place x e)

-- ---- order

pub pairs_none : {A : Type 0} (R : A → A → Type 0) → AllPairs R []
pairs_none R = λ i j d lt below. absurd (omega (arith, below))

pairs_head : {A : Type 0} (R : A → A → Type 0) (x : A) (xs : List A) → AllPairs R (x ∷ xs) → All (R x) xs
pairs_head R x xs h = λ k d lt. h 0 (suc k) d (omega arith) (omega (arith, lt))

pairs_tail : {A : Type 0} (R : A → A → Type 0) (x : A) (xs : List A) → AllPairs R (x ∷ xs) → AllPairs R xs
pairs_tail R x xs h = λ i j d lt below. h (suc i) (suc j) d (omega (arith, lt)) (omega (arith, below))

-- two lists, each in order, of which the second stands behind the first
pub pairs_append : {A : Type 0} (R : A → A → Type 0) (xs ys : List A) → AllPairs R xs → AllPairs R ys → All (λ x. All (R x) ys) xs → AllPairs R (xs ++ ys)
pairs_append R [] ys h k across = k
pairs_append R (x ∷ xs) ys h k across =
    AllPairs-cons R x (xs ++ ys) (All-append (R x) xs ys (pairs_head R x xs h) (All-head (λ z. All (R z) ys) x xs across))
    (pairs_append R xs ys (pairs_tail R x xs h) k (All-tail (λ z. All (R z) ys) x xs across))

pub pairs_map : {A B : Type 0} (S : A → A → Type 0) (R : B → B → Type 0) (f : A → B) (xs : List A) → ((a b : A) → S a b → R (f a) (f b)) → AllPairs S xs → AllPairs R (map f xs)
pairs_map S R f [] keeps h = pairs_none R
pairs_map S R f (x ∷ xs) keeps h =
    AllPairs-cons R (f x) (map f xs) (All-map (R (f x)) f xs (All-weaker (S x) (λ y. R (f x) (f y)) (λ y s. keeps x y s) xs (pairs_head S x xs h))) (pairs_map S R f xs keeps (pairs_tail S x xs h))

-- ---- nothing is kept

pub filter_none : {A : Type 0} (test : A → Bool) (xs : List A) → ((x : A) → test x ≡ false) → filter test xs ≡ []
filter_none test [] none = refl
filter_none test (x ∷ xs) none = rw (none x) (filter_none test xs none)

pub joined_none : {A B : Type 0} (g : A → List B) (ws : List A) → ((w : A) → g w ≡ []) → flat_map g ws ≡ []
joined_none g [] none = refl
joined_none g (w ∷ ws) none = rw (none w) (joined_none g ws none)

-- ---- the last of a list with one more

last_one_more : {A : Type 0} (o : Option A) (xs : List A) (x : A) → last_or o (xs ++ x ∷ []) ≡ Some x
last_one_more o [] x = refl
last_one_more o (y ∷ ys) x = last_one_more (Some y) ys x

pub last_more : {A : Type 0} (xs : List A) (x : A) → last_or None (xs ++ x ∷ []) ≡ Some x
last_more xs x = last_one_more None xs x
