-- Lists without the elements that are the same as one further in front, with more elements.
use Rattle.std.proofs.Common.{◌≡◌, Bool, true, false, cond, not, ◌||◌, List, [], ◌∷◌, ◌++◌, refl, ap, ◌∙◌}
use Rattle.std.specs.List.{list_any, filter}
use Rattle.std.proofs.lemmas.List.Elements.{filter-append}
use Rattle.path_listing.specs.Firsts.{first_only}

-- what stays of later elements after earlier ones
unfoldable pub rest_of : {A : Type 0} → (A → A → Bool) → List A → List A → List A
rest_of same [] ys = first_only same ys
rest_of same (x ∷ xs) ys = filter (λ y. not (same x y)) (rest_of same xs ys)

pub first_only-append : {A : Type 0} (same : A → A → Bool) (xs ys : List A) → first_only same (xs ++ ys) ≡ first_only same xs ++ rest_of same xs ys
unfolding rest_of
first_only-append same [] ys = refl
first_only-append {A} same (x ∷ xs) ys =
    ap (λ (zs : List A). x ∷ filter (λ y. not (same x y)) zs) (first_only-append same xs ys)
    ∙ ap (λ (zs : List A). x ∷ zs) (filter-append (λ y. not (same x y)) (first_only same xs) (rest_of same xs ys))

pub rest_of-one : {A : Type 0} (same : A → A → Bool) (xs : List A) (z : A) → rest_of same xs (z ∷ []) ≡ cond (list_any (λ x. same x z) xs) [] (z ∷ [])
unfolding rest_of
rest_of-one same [] z = refl
rest_of-one {A} same (x ∷ xs) z = ap (filter (λ y. not (same x y))) (rest_of-one same xs z) ∙ go (same x z) refl (list_any (λ y. same y z) xs) where
  go : (a : Bool) → same x z ≡ a → (b : Bool) → filter (λ y. not (same x y)) (cond b [] (z ∷ [])) ≡ cond (a || b) [] (z ∷ [])
  go true e true = refl
  go false e true = refl
  go true e false = rw e refl
  go false e false = rw e refl
