-- Where each name of a list first stands, as a map keeps it.
use Rattle.std.specs.Prelude.{◌≡◌, ℕ, suc, List, [], ◌∷◌, Option, Some, None, if◌then◌else◌}
use Rattle.std.specs.Option.{option_map}
use Rattle.std.specs.Ordering.{nat_cmp}
use Rattle.std.specs.Cmp.Lexicographic.{slice_cmp}
use Rattle.std.specs.BTreeMap.{BTreeMap, get_by}
use Rattle.std.specs.Global.{Vec}
use Rattle.path_tree.specs.Paths.{Bytes, same_name}

-- the place of the first that is this one
abbrev pub first_at : Bytes → List Bytes → Option ℕ
first_at name [] = None
first_at name (n ∷ ns) = if same_name name n then Some 0 else option_map suc (first_at name ns)

-- each name has the place of its first
abbrev pub IsFirsts : List Bytes → BTreeMap (Vec ℕ) ℕ → Type 0
IsFirsts names firsts = (name : Bytes) → get_by (λ k. slice_cmp nat_cmp name k.items) firsts ≡ first_at name names
