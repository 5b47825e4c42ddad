-- Comparing lists of bytes.
use Rattle.std.proofs.Common.{◌≡◌, ℕ, List, refl}
use Rattle.std.specs.Prelude.{nat_eq}
use Rattle.std.specs.Cmp.Lexicographic.{pointwise}
use Rattle.path_tree.specs.Paths.{same_name}

pub same_pointwise : (a b : List ℕ) → same_name a b ≡ pointwise nat_eq a b
same_pointwise a b = refl
