-- Bytes that pass the test of a name are a name.
use Rattle.std.proofs.Common.{◌≡◌, ℕ, ◌<◌, ◌≤◌, false, ◌==◌, length, get_or, sym, ap, ◌∙◌, zero, suc, arith}
use Rattle.std.specs.List.{list_any}
use Rattle.std.proofs.lemmas.Bool.{true≢false, eqb-false}
use Rattle.std.proofs.lemmas.List.{get_or_default}
use Rattle.std.proofs.lemmas.List.Folds.{list_any_at}
use Rattle.path_tree.specs.Paths.{Bytes, IsName}
use Rattle.path_tree.specs.Texts.{is_zero_or_slash}

some_of : (n : ℕ) → (n == 0) ≡ false → 1 ≤ n
some_of zero e = absurd (eqb-false 0 0 e (omega arith))
some_of (suc n) e = omega arith

pub named : (name : Bytes) → ((i : ℕ) → get_or name i 0 < 256) → (length name == 0) ≡ false → length name ≤ 254 → list_any is_zero_or_slash name ≡ false → IsName name
named name fits some few none = record {
  at_least = some_of (length name) some;
  at_most = few;
  no_zero = λ k d within same. true≢false (sym (list_any_at is_zero_or_slash name k d within (ap is_zero_or_slash same)) ∙ none);
  no_slash = λ k d within same. true≢false (sym (list_any_at is_zero_or_slash name k d within (ap is_zero_or_slash same)) ∙ none);
  in_byte = λ k d within. omega (arith, fits k, get_or_default name k d 0 within);
}
