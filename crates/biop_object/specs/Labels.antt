-- Where the names of a list first stand.
use Rattle.std.specs.Prelude.{ℕ, Bool, not, List, [], take, get_or}
use Rattle.std.specs.List.{list_any}
use Rattle.path_tree.specs.Paths.{Bytes, same_name}

-- whether the name at a place stands at no place before it
abbrev pub is_first_in : List Bytes → ℕ → Bool
is_first_in names i = not (list_any (λ n. same_name n (get_or names i [])) (take i names))
