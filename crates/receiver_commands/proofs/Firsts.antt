-- Lists without the elements that are the same as one further in front, with one element more.
use Rattle.std.proofs.Common.{◌≡◌, ◌≢◌, ℕ, ◌+◌, ◌<◌, ◌≤◌, Bool, true, false, cond, not, List, [], ◌∷◌, ◌++◌, length, take, get_or, refl, sym, ap, ◌∙◌, arith, append-nil}
use Rattle.std.specs.List.{AllPairs, list_any, filter}
use Rattle.std.proofs.lemmas.List.{take_more}
use Rattle.std.proofs.lemmas.List.Elements.{filter_passes, All-weaker}
use Rattle.std.proofs.lemmas.List.Kept.{AllPairs-cons, AllPairs-filter}
use Rattle.path_listing.proofs.CallerLemmas.{first_only-append, rest_of-one}
use Rattle.receiver_commands.specs.Firsts.{first_only}
use Rattle.receiver_commands.specs.Inner.Firsts.{with_new}

-- one element more, which stood before or didn't
first_met : {A : Type 0} (same : A → A → Bool) (xs : List A) (z : A) → list_any (λ x. same x z) xs ≡ true → first_only same (xs ++ z ∷ []) ≡ first_only same xs
first_met {A} same xs z met =
    first_only-append same xs (z ∷ []) ∙ ap (λ (zs : List A). first_only same xs ++ zs) (rest_of-one same xs z ∙ ap (λ b. cond b [] (z ∷ [])) met) ∙ append-nil (first_only same xs)

first_new : {A : Type 0} (same : A → A → Bool) (xs : List A) (z : A) → list_any (λ x. same x z) xs ≡ false → first_only same (xs ++ z ∷ []) ≡ first_only same xs ++ z ∷ []
first_new {A} same xs z new =
    first_only-append same xs (z ∷ []) ∙ ap (λ (zs : List A). first_only same xs ++ zs) (rest_of-one same xs z ∙ ap (λ b. cond b [] (z ∷ [])) new)

first_one : {A : Type 0} (same : A → A → Bool) (xs : List A) (z : A) → first_only same (xs ++ z ∷ []) ≡ with_new same (first_only same xs) xs z
first_one {A} same xs z = by (list_any (λ x. same x z) xs) refl
  where
    by : (b : Bool) → list_any (λ x. same x z) xs ≡ b → first_only same (xs ++ z ∷ []) ≡ cond b (first_only same xs) (first_only same xs ++ z ∷ [])
    by true e = first_met same xs z e
    by false e = first_new same xs z e

-- the next of a list's elements
pub first_more : {A : Type 0} (same : A → A → Bool) (xs : List A) (i : ℕ) (z : A) → i < length xs → z ≡ get_or xs i z → first_only same (take (i + 1) xs) ≡ with_new same (first_only same (take i xs)) (take i xs) z
first_more {A} same xs i z h is = ap (first_only same) (take_more xs i z h ∙ ap (λ (x : A). take i xs ++ x ∷ []) (sym is)) ∙ first_one same (take i xs) z

-- no two of them are equal
pub firsts_differ : {A : Type 0} (same : A → A → Bool) → ((x y : A) → x ≡ y → same x y ≡ true) → (xs : List A) → AllPairs (λ x y. x ≢ y) (first_only same xs)
firsts_differ same equal [] = λ i j d before within. absurd (omega (arith, within))
firsts_differ {A} same equal (x ∷ xs) =
    let others : List A = filter (λ y. not (same x y)) (first_only same xs) in
    AllPairs-cons (λ x y. x ≢ y) x others
    (All-weaker (λ y. not (same x y) ≡ true) (λ y. x ≢ y) (λ y passes is. absurd (cc (passes, ap not (equal x y is)))) others (filter_passes (λ y. not (same x y)) (first_only same xs)))
    (AllPairs-filter (λ x y. x ≢ y) (λ y. not (same x y)) (first_only same xs) (firsts_differ same equal xs))

filter_few : {A : Type 0} (test : A → Bool) (xs : List A) → length (filter test xs) ≤ length xs
filter_few test [] = omega arith
filter_few {A} test (x ∷ xs) = by (test x) (filter_few test xs)
  where
    by : (b : Bool) → length (filter test xs) ≤ length xs → length (cond b (x ∷ filter test xs) (filter test xs)) ≤ length (x ∷ xs)
    by true h = omega (arith, h)
    by false h = omega (arith, h)

-- nor are there more
pub firsts_few : {A : Type 0} (same : A → A → Bool) (xs : List A) → length (first_only same xs) ≤ length xs
firsts_few same [] = omega arith
firsts_few same (x ∷ xs) = omega (arith, firsts_few same xs, filter_few (λ y. not (same x y)) (first_only same xs))
