-- The first component of a tag, as a loop finds it.
use Rattle.std.proofs.Common.{◌≡◌, ℕ, Bool, true, false, cond, ◌==◌, List, [], ◌∷◌, ◌++◌, Option, Some, None, refl, sym, ◌∙◌}
use Rattle.std.specs.Option.{option_or}
use Rattle.ior_tap.specs.Iors.{component_of}

by_test : (b : Bool) (z : List ℕ) (o p q : Option (List ℕ)) → o ≡ option_or p q → cond b (Some z) o ≡ option_or (cond b (Some z) p) q
by_test true z o p q e = refl
by_test false z o p q e = e

-- with one component more
one_more : (tag : ℕ) (x : ℕ × List ℕ) (front : List (ℕ × List ℕ)) → component_of tag (front ++ x ∷ []) ≡ option_or (component_of tag front) (cond (x.0 == tag) (Some x.1) None)
one_more tag x [] = refl
one_more tag x (y ∷ front) = by_test (y.0 == tag) y.1 _ (component_of tag front) _ (one_more tag x front)

pub first_more : (tag : ℕ) (x : ℕ × List ℕ) (front : List (ℕ × List ℕ)) (before after : Option (List ℕ)) → before ≡ component_of tag front
    → after ≡ option_or before (cond (x.0 == tag) (Some x.1) None) → after ≡ component_of tag (front ++ x ∷ [])
first_more tag x front before after so_far e = e ∙ rw so_far (sym (one_more tag x front))
