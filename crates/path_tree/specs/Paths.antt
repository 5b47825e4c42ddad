-- Paths as lists of names, names as lists of bytes. The path of no names is the root.
use Rattle.std.specs.Prelude.{ℕ, suc, ◌≤◌, ◌<◌, ◌≢◌, Bool, true, false, ◌&&◌, nat_eq, List, [], ◌∷◌, length, Option, Some, None, cond, if◌then◌else◌}
use Rattle.std.specs.List.{All}
use Rattle.std.specs.Ordering.{nat_cmp}
use Rattle.std.specs.Cmp.Lexicographic.{slice_cmp, pointwise}
use Rattle.std.specs.declared.cmp.Ordering.{Ordering}
pub use Rattle.oc_bytes.specs.Numbers.{Bytes}
use Rattle.path_tree.specs.declared.text.TheConstants.{MOST_NAMES}

abbrev pub PathNames : Type 0
PathNames = List Bytes

-- names by their bytes, and paths by their names
abbrev pub name_cmp : Bytes → Bytes → Ordering
name_cmp = slice_cmp nat_cmp

abbrev pub path_cmp : PathNames → PathNames → Ordering
path_cmp = slice_cmp name_cmp

-- equal names and equal paths, by std's word for equal slices
abbrev pub same_name : Bytes → Bytes → Bool
same_name = pointwise nat_eq

abbrev pub same_path : PathNames → PathNames → Bool
same_path = pointwise same_name

abbrev pub is_root : PathNames → Bool
is_root [] = true
is_root (n ∷ ns) = false

-- the second path lies below the first
abbrev pub is_below : PathNames → PathNames → Bool
is_below [] [] = false
is_below [] (n ∷ ns) = true
is_below (m ∷ ms) [] = false
is_below (m ∷ ms) (n ∷ ns) = same_name m n && is_below ms ns

-- the next name of a path below another
abbrev pub next_name : PathNames → PathNames → Option Bytes
next_name [] [] = None
next_name [] (n ∷ ns) = Some n
next_name (m ∷ ms) [] = None
next_name (m ∷ ms) (n ∷ ns) = cond (same_name m n) (next_name ms ns) None

-- with how many names two paths begin alike
abbrev pub shared : PathNames → PathNames → ℕ
shared (m ∷ p) (n ∷ q) = if same_name m n then suc (shared p q) else 0
shared _ _ = 0

pub record IsName (name : Bytes) : Type 0 where
  pub at_least : 1 ≤ length name
  pub at_most : length name ≤ 254
  pub no_zero : All (λ b. b ≢ 0) name
  pub no_slash : All (λ b. b ≢ 47) name
  pub in_byte : All (λ b. b < 256) name

pub record IsPath (path : PathNames) : Type 0 where
  pub depth : length path ≤ MOST_NAMES
  pub names : All IsName path
