-- A list whose elements are seen otherwise: what is made of it is the same where it is so of each element.
use Rattle.std.proofs.Common.{◌≡◌, ℕ, zero, suc, ◌<◌, Bool, List, [], ◌∷◌, length, map, get_or, Option, refl, arith}
use Rattle.std.specs.Prelude.{◌||◌}
use Rattle.std.specs.List.{AllByRecursion, cons_option, filter_map, list_any, sum_by}
use Rattle.std.proofs.lemmas.List.Sums.{sum_by-cons}

pub sums_alike : {A B : Type 0} (h : B → ℕ) (f : A → ℕ) (g : A → B) (xs : List A) → AllByRecursion (λ x. h (g x) ≡ f x) xs → sum_by h (map g xs) ≡ sum_by f xs
sums_alike h f g [] e = refl
sums_alike h f g (x ∷ xs) e = omega (arith, sum_by-cons h (g x) (map g xs), sum_by-cons f x xs, e.0, sums_alike h f g xs e.1)

pub maps_alike : {A B C : Type 0} (h : B → C) (f : A → C) (g : A → B) (xs : List A) → AllByRecursion (λ x. h (g x) ≡ f x) xs → map h (map g xs) ≡ map f xs
maps_alike h f g [] e = refl
maps_alike h f g (x ∷ xs) e = λ i. e.0 i ∷ maps_alike h f g xs e.1 i

pub maps_same : {A B C : Type 0} (h : B → C) (f : A → C) (g : A → B) → ((x : A) → h (g x) ≡ f x) → (xs : List A) → map h (map g xs) ≡ map f xs
maps_same h f g e [] = refl
maps_same h f g e (x ∷ xs) = λ i. e x i ∷ maps_same h f g e xs i

pub kept_alike : {A B C : Type 0} (h : B → Option C) (f : A → Option C) (g : A → B) (xs : List A) → AllByRecursion (λ x. h (g x) ≡ f x) xs → filter_map h (map g xs) ≡ filter_map f xs
kept_alike h f g [] e = refl
kept_alike h f g (x ∷ xs) e = λ i. cons_option (e.0 i) (kept_alike h f g xs e.1 i)

pub any_same : {A B : Type 0} (p : B → Bool) (q : A → Bool) (g : A → B) → ((x : A) → p (g x) ≡ q x) → (xs : List A) → list_any p (map g xs) ≡ list_any q xs
any_same p q g e [] = refl
any_same p q g e (x ∷ xs) = λ i. e x i || any_same p q g e xs i

-- an element's place tells it, whatever stands for those that aren't there
pub same_default : {A : Type 0} (xs : List A) (i : ℕ) (d e : A) → i < length xs → get_or xs i d ≡ get_or xs i e
same_default [] i d e lt = absurd (omega (arith, lt))
same_default (x ∷ xs) zero d e lt = refl
same_default (x ∷ xs) (suc i) d e lt = same_default xs i d e (omega (arith, lt))

pub each_weaker : {A : Type 0} {P Q : A → Type 0} (xs : List A) → ((x : A) → P x → Q x) → AllByRecursion P xs → AllByRecursion Q xs
each_weaker [] f h = tt
each_weaker (x ∷ xs) f h = (f x h.0, each_weaker xs f h.1)
