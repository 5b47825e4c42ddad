-- Lists without the elements that are the same as one further in front.
use Rattle.std.specs.Prelude.{Bool, not, List, [], ◌∷◌}
use Rattle.std.specs.List.{filter}

-- each element at its first place only
abbrev pub first_only : {A : Type 0} → (A → A → Bool) → List A → List A
first_only same [] = []
first_only same (x ∷ xs) = x ∷ filter (λ y. not (same x y)) (first_only same xs)
