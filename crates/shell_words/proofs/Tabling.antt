-- A table of carousels, cut into entries and these into names and PIDs.
use Rattle.std.proofs.Common.{◌≡◌, ℕ, ◌<◌, ◌≤◌, true, List, [], ◌∷◌, length, get_or, map, Option, Some, None, refl, sym, ap, ◌∙◌, arith, lit<}
use Rattle.std.specs.List.{slice_split, position_or_len, before_first, after_first}
use Rattle.std.specs.Iterator.{Yields}
use Rattle.std.specs.Str.Iter.{split_steps, split_text, split_has_more, split_pattern}
use Rattle.std.specs.Str.Pattern.{FindsChar}
use denote.Ref.{Bor}
use Rattle.std.proofs.lemmas.List.{drop_all}
use Rattle.std.proofs.lemmas.Iterator.Splits.{YieldsList-from_str_split}
use Rattle.std.proofs.lemmas.Iterator.Consumers.{YieldsList-at, YieldsList-turn, YieldsList-end}
use Rattle.path_tree.specs.Paths.{Bytes}
use Rattle.shell_words.specs.Values.{◌>>=◌, Entry, pid_in, is_comma, is_equals_sign, mount_name_in, entry_in, each_in, table_in}
use Rattle.shell_words.proofs.Naming.{prepended, each_begins}

-- ---- an entry

abbrev with_pid : Option Bytes → Option ℕ → Option Entry
with_pid name pid = name >>= λ n. pid >>= λ p. Some (n, p)

without_pid : (name : Option Bytes) → with_pid name None ≡ None
without_pid (Some n) = refl
without_pid None = refl

-- no equals sign stands in it
pub no_equals_sign : (text : Bytes) → position_or_len is_equals_sign text ≡ length text → entry_in text ≡ None
no_equals_sign text e =
    let none : after_first is_equals_sign text ≡ [] = drop_all _ text (omega (arith, e)) in
    ap (λ (behind : Bytes). with_pid (mount_name_in (before_first is_equals_sign text)) (pid_in behind)) none ∙ without_pid (mount_name_in (before_first is_equals_sign text))

-- ---- the pieces that `split` gives

pub map_same : (xs : List Bytes) → map (λ x. x) xs ≡ xs
map_same [] = refl
map_same (x ∷ xs) = ap (λ (ys : List Bytes). x ∷ ys) (map_same xs)

pub table_begins : (text : Bytes) → table_in text ≡ prepended [] (each_in entry_in (map (λ x. x) (slice_split is_comma text)))
table_begins text = ap (each_in entry_in) (sym (map_same (slice_split is_comma text))) ∙ each_begins _

-- the next piece of a text is this one
pub record IsPiece (text : Bytes) (n : ℕ) (piece : Bytes) : Type 0 where
  pub within : n < length (slice_split is_comma text)
  pub at : piece ≡ get_or (slice_split is_comma text) n piece

module _ (text : Bytes) (begun s t u : _) (same : s ≡ begun) (whole : split_text {P = ℕ} begun ≡ text) (more : split_has_more {P = ℕ} begun ≡ true) (pattern : split_pattern {P = ℕ} begun ≡ 44)
    (xs : List (Bor Bytes)) (y : Yields (split_steps FindsChar (λ a b. b ≡ a)) s xs t) (r : Option (Bor Bytes)) (steps : split_steps FindsChar (λ a b. b ≡ a) t r u) where
  pub next_piece : (x : Bor Bytes) → r ≡ Some x → IsPiece text (length xs) x.now
  next_piece x e =
      let road = YieldsList-at same (YieldsList-from_str_split 44 text (lit< tt) whole more pattern) in
      let turn = YieldsList-turn road xs t y r u x e steps in
      record { within = turn.0; at = turn.1 }

  pub no_more_pieces : r ≡ None → length (slice_split is_comma text) ≤ length xs
  no_more_pieces e =
      let road = YieldsList-at same (YieldsList-from_str_split 44 text (lit< tt) whole more pattern) in
      let end = YieldsList-end road xs t y r u e steps in
      omega arith
