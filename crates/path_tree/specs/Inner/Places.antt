-- Where a path stands among a tree's entries, which are in the order of paths.
use Rattle.std.specs.Prelude.{ℕ, Bool, false, ◌&&◌, List, [], ◌∷◌, ◌++◌, drop, Option, Some, None, if◌then◌else◌}
use Rattle.std.specs.List.{prefix_len}
use Rattle.std.specs.Ordering.{is_lt}
use Rattle.path_tree.specs.Paths.{Bytes, PathNames, path_cmp, same_path, same_name, is_below}
use Rattle.path_tree.specs.Trees.{Tree, is_a_file}
use Rattle.path_tree.specs.declared.entry.Entry.{Entry}

abbrev pub is_before : PathNames → PathNames × Entry → Bool
is_before p e = is_lt (path_cmp e.0 p)

-- how many entries stand before a path
abbrev pub place_in : Tree → PathNames → ℕ
place_in t p = prefix_len (is_before p) t

-- the first of the entries, where it stands at the path
abbrev pub first_at : Tree → PathNames → Option Entry
first_at [] p = None
first_at (e ∷ es) p = if same_path p e.0 then Some e.1 else None

-- the entries without a first one at the path
abbrev pub beyond : Tree → PathNames → Tree
beyond [] p = []
beyond (e ∷ es) p = if same_path p e.0 then es else (e ∷ es)

-- the entries that stand after the path
abbrev pub behind : Tree → PathNames → Tree
behind t p = beyond (drop (place_in t p) t) p

abbrev pub first_is_below : Tree → PathNames → Bool
first_is_below [] p = false
first_is_below (e ∷ es) p = is_below p e.0

-- the last of the entries is a file above the path
abbrev pub last_is_above : Tree → PathNames → Bool
last_is_above [] p = false
last_is_above (e ∷ []) p = is_a_file e.1 && is_below e.0 p
last_is_above (e ∷ f ∷ fs) p = last_is_above (f ∷ fs) p

-- how many of the first entries lie below a path
abbrev pub count_below : Tree → PathNames → ℕ
count_below t p = prefix_len (λ e. is_below p e.0) t

abbrev pub last_name_is : List Bytes → Bytes → Bool
last_name_is [] n = false
last_name_is (k ∷ []) n = same_name n k
last_name_is (k ∷ j ∷ js) n = last_name_is (j ∷ js) n

-- the listed names with one more, unless it is the last of them
abbrev pub with_name : List Bytes → Bytes → List Bytes
with_name names n = if last_name_is names n then names else names ++ n ∷ []
