-- Lists: an item that is put in the place of another one, what is found, and one element more.
use Rattle.std.proofs.Common.{ℕ, zero, suc, ◌≡◌, ◌+◌, ◌<◌, ◌≤◌, Bool, true, false, cond, List, [], ◌∷◌, ◌++◌, length, map, Option, Some, None, refl, sym, ap, subst, ◌∙◌, arith}
use Rattle.std.proofs.Math.ListN.{set}
use Rattle.std.specs.List.{filter, find, last_or, position_from}
use Rattle.std.specs.Option.{option_map}
use Rattle.psi_tables.specs.Finding.{last_where}
use Rattle.psi_tables.specs.Inner.Steps.{put}

-- ---- put

-- the place where an item is put
pub record Placed {A : Type 0} (test : A → Bool) (xs : List A) (place : ℕ) : Type 0 where
  pub within : place < length xs
  pub puts : (y : A) → put test y xs ≡ set xs place y

placed_from : {A : Type 0} (test : A → Bool) (i : ℕ) (xs : List A) (place : ℕ) → position_from test i xs ≡ Some place → (i ≤ place) × ((n : ℕ) → i + n ≡ place → Placed test xs n)
placed_from test i [] place e = cc
placed_from {A} test i (x ∷ xs) place e = go (test x) refl e (placed_from test (i + 1) xs place) where
  go : (b : Bool) → test x ≡ b → cond {A = Option ℕ} b (Some i) (position_from test (i + 1) xs) ≡ Some place
      → (position_from test (i + 1) xs ≡ Some place → (i + 1 ≤ place) × ((n : ℕ) → i + 1 + n ≡ place → Placed test xs n))
      → (i ≤ place) × ((n : ℕ) → i + n ≡ place → Placed test (x ∷ xs) n)
  go true t h later =
      let same : i ≡ place = cc in
      (omega arith, λ n g. let first : n ≡ 0 = omega arith in subst (λ (k : ℕ). Placed test (x ∷ xs) k) (sym first) (record { within = omega arith; puts = λ y. rw t refl }))
  go false t h later =
      let rest = later h in
      (omega (arith, rest.0), λ n g. next n g rest) where
        next : (n : ℕ) → i + n ≡ place → (i + 1 ≤ place) × ((m : ℕ) → i + 1 + m ≡ place → Placed test xs m) → Placed test (x ∷ xs) n
        next zero g rest = absurd (omega (arith, g, rest.0))
        next (suc n) g rest = let p = rest.1 n (omega (arith, g)) in record { within = omega (arith, p.within); puts = λ y. rw t (ap (λ (zs : List A). x ∷ zs) (p.puts y)) }

pub placed : {A : Type 0} (test : A → Bool) (xs : List A) (place : ℕ) → position_from test 0 xs ≡ Some place → Placed test xs place
placed test xs place e = (placed_from test 0 xs place e).1 place (omega arith)

none_from : {A : Type 0} (test : A → Bool) (i : ℕ) (xs : List A) → position_from test i xs ≡ None → (y : A) → put test y xs ≡ xs ++ y ∷ []
none_from test i [] e y = refl
none_from {A} test i (x ∷ xs) e y = go (test x) refl e (λ h. none_from test (i + 1) xs h y) where
  go : (b : Bool) → test x ≡ b → cond {A = Option ℕ} b (Some i) (position_from test (i + 1) xs) ≡ None → (position_from test (i + 1) xs ≡ None → put test y xs ≡ xs ++ y ∷ [])
      → put test y (x ∷ xs) ≡ x ∷ (xs ++ y ∷ [])
  go true t h later = cc
  go false t h later = rw t (ap (λ (zs : List A). x ∷ zs) (later h))

pub put_behind : {A : Type 0} (test : A → Bool) (xs : List A) → position_from test 0 xs ≡ None → (y : A) → put test y xs ≡ xs ++ y ∷ []
put_behind test xs e y = none_from test 0 xs e y

-- ---- what is found after a put

-- where the sought key is that of the item
pub found_put : {A : Type 0} (test : A → Bool) (y : A) (xs : List A) → test y ≡ true → find test (put test y xs) ≡ Some y
found_put test y [] t = rw t refl
found_put {A} test y (x ∷ xs) t = go (test x) refl (found_put test y xs t) where
  go : (b : Bool) → test x ≡ b → find test (put test y xs) ≡ Some y → find test (cond b (y ∷ xs) (x ∷ put test y xs)) ≡ Some y
  go true h later = rw t refl
  go false h later = rw h later

-- where it is another one
pub found_still : {A : Type 0} (test sought : A → Bool) (y : A) (xs : List A) → ((x : A) → test x ≡ true → sought x ≡ false) → sought y ≡ false → find sought (put test y xs) ≡ find sought xs
found_still test sought y [] apart s = rw s refl
found_still {A} test sought y (x ∷ xs) apart s = go (test x) refl (found_still test sought y xs apart s) where
  more : (b : Bool) → find sought (put test y xs) ≡ find sought xs → cond {A = Option A} b (Some x) (find sought (put test y xs)) ≡ cond b (Some x) (find sought xs)
  more true later = refl
  more false later = later

  go : (b : Bool) → test x ≡ b → find sought (put test y xs) ≡ find sought xs → find sought (cond b (y ∷ xs) (x ∷ put test y xs)) ≡ find sought (x ∷ xs)
  go true h later = rw (s, apart x h) refl
  go false h later = more (sought x) later

-- ---- the last that passes

last_one_more : {A : Type 0} (o : Option A) (xs : List A) (x : A) → last_or o (xs ++ x ∷ []) ≡ Some x
last_one_more o [] x = refl
last_one_more o (y ∷ ys) x = last_one_more (Some y) ys x

pub last_more : {A : Type 0} (xs : List A) (x : A) → last_or None (xs ++ x ∷ []) ≡ Some x
last_more xs x = last_one_more None xs x

filter_more : {A : Type 0} (test : A → Bool) (xs : List A) (x : A) → filter test (xs ++ x ∷ []) ≡ filter test xs ++ filter test (x ∷ [])
filter_more test [] x = refl
filter_more {A} test (y ∷ ys) x = go (test y) (filter_more test ys x) where
  go : (b : Bool) → filter test (ys ++ x ∷ []) ≡ filter test ys ++ filter test (x ∷ []) → cond b (y ∷ filter test (ys ++ x ∷ [])) (filter test (ys ++ x ∷ [])) ≡ cond b (y ∷ filter test ys) (filter test ys) ++ filter test (x ∷ [])
  go true later = ap (λ (zs : List A). y ∷ zs) later
  go false later = later

pub last_where_here : {A : Type 0} (test : A → Bool) (xs : List A) (x : A) → test x ≡ true → last_where test (xs ++ x ∷ []) ≡ Some x
last_where_here {A} test xs x t = ap (λ (zs : List A). last_or None zs) (filter_more test xs x) ∙ rw t (last_more (filter test xs) x)

append_nothing : {A : Type 0} (xs : List A) → xs ++ [] ≡ xs
append_nothing [] = refl
append_nothing {A} (x ∷ xs) = ap (λ (zs : List A). x ∷ zs) (append_nothing xs)

pub last_where_still : {A : Type 0} (test : A → Bool) (xs : List A) (x : A) → test x ≡ false → last_where test (xs ++ x ∷ []) ≡ last_where test xs
last_where_still {A} test xs x t = ap (λ (zs : List A). last_or None zs) (filter_more test xs x) ∙ rw t (ap (λ (zs : List A). last_or None zs) (append_nothing (filter test xs)))

-- ---- what is found through a view

pub find_seen : {A B : Type 0} (view : A → B) (test : B → Bool) (xs : List A) → find test (map view xs) ≡ option_map view (find (λ x. test (view x)) xs)
find_seen view test [] = refl
find_seen {A} {B} view test (x ∷ xs) = go (test (view x)) (find_seen view test xs) where
  go : (b : Bool) → find test (map view xs) ≡ option_map view (find (λ y. test (view y)) xs) → cond {A = Option B} b (Some (view x)) (find test (map view xs)) ≡ option_map view (cond b (Some x) (find (λ y. test (view y)) xs))
  go true later = refl
  go false later = later

pub put_seen : {A B : Type 0} (view : A → B) (test : B → Bool) (y : A) (xs : List A) → map view (put (λ x. test (view x)) y xs) ≡ put test (view y) (map view xs)
put_seen view test y [] = refl
put_seen {A} {B} view test y (x ∷ xs) = go (test (view x)) (put_seen view test y xs) where
  go : (b : Bool) → map view (put (λ z. test (view z)) y xs) ≡ put test (view y) (map view xs)
      → map view (cond b (y ∷ xs) (x ∷ put (λ z. test (view z)) y xs)) ≡ cond b (view y ∷ map view xs) (view x ∷ put test (view y) (map view xs))
  go true later = refl
  go false later = ap (λ (zs : List B). view x ∷ zs) later

-- ---- as the code asks

pub placed_in : {A : Type 0} (test : A → Bool) (xs ys : List A) (place : ℕ) → ys ≡ xs → Some place ≡ position_from test 0 ys → Placed test xs place
placed_in test xs ys place same e = placed test xs place (sym (e ∙ ap (λ zs. position_from test 0 zs) same))

pub put_behind_in : {A : Type 0} (test : A → Bool) (xs ys : List A) → ys ≡ xs → None ≡ position_from test 0 ys → (y : A) → put test y xs ≡ xs ++ y ∷ []
put_behind_in test xs ys same e = put_behind test xs (sym (e ∙ ap (λ zs. position_from test 0 zs) same))
