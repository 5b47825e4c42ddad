-- Lists with one element more.
use Rattle.std.proofs.Common.{◌≡◌, List, [], ◌∷◌, ◌++◌, Option, Some, None, refl}
use Rattle.std.specs.List.{filter_map, last_or, cons_option}

abbrev pub last_of : {A : Type 0} → Option A → Option A → Option A
last_of (Some x) before = Some x
last_of None before = before

pub last_more : {H A : Type 0} (f : H → Option A) (o : Option A) (xs : List H) (h : H) → last_or o (filter_map f (xs ++ h ∷ [])) ≡ last_of (f h) (last_or o (filter_map f xs))
last_more f o [] h = alone (f h) where
  alone : (p : Option _) → last_or o (cons_option p []) ≡ last_of p o
  alone (Some x) = refl
  alone None = refl
last_more f o (x ∷ xs) h = ahead (f x) (λ p. last_more f p xs h) where
  ahead : (q : Option _) → ((p : Option _) → last_or p (filter_map f (xs ++ h ∷ [])) ≡ last_of (f h) (last_or p (filter_map f xs)))
      → last_or o (cons_option q (filter_map f (xs ++ h ∷ []))) ≡ last_of (f h) (last_or o (cons_option q (filter_map f xs)))
  ahead (Some y) e = e (Some y)
  ahead None e = e o
