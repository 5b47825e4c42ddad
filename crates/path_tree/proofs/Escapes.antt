-- Escapes that are none.
use Rattle.std.proofs.Common.{◌≡◌, ℕ, ◌<◌, ◌≤◌, [], ◌∷◌, length, slice_index_or, Option, Some, None, refl, ap, sym, ◌∙◌, subst, arith}
use Rattle.path_tree.specs.Paths.{Bytes}
use Rattle.path_tree.specs.Texts.{Plain, Percent, Broken, digit, high_digit, low_digit, undo, undo_all, if_plain}
use Rattle.path_tree.specs.Inner.Steps.{byte_of_digits}

undo_all-Broken : (out rest : Bytes) → undo_all (Broken, out) rest ≡ (Broken, out)
undo_all-Broken out [] = refl
undo_all-Broken out (c ∷ cs) = undo_all-Broken out cs

low_digit-none : (h : ℕ) (low : Option ℕ) (out : Bytes) → byte_of_digits (Some h) low ≡ None → low_digit h low out ≡ (Broken, out)
low_digit-none h None out e = refl
low_digit-none h (Some l) out e = cc

undo-none : (high : Option ℕ) (low : ℕ) (out : Bytes) → byte_of_digits high (digit low) ≡ None → undo (high_digit high) out low ≡ (Broken, out)
undo-none None low out e = refl
undo-none (Some h) low out e = low_digit-none h (digit low) out e

if_plain-digit : (high : Option ℕ) (out : Bytes) → if_plain (high_digit high, out) ≡ None
if_plain-digit None out = refl
if_plain-digit (Some h) out = refl

pub percent : (p : ℕ) (cs out : Bytes) → p ≡ 37 → undo_all (Plain, out) (p ∷ cs) ≡ undo_all (Percent, out) cs
percent p cs out e = let P : ℕ → Type 0 = λ q. undo_all (Plain, out) (q ∷ cs) ≡ undo_all (Percent, out) cs in subst P (sym e) refl

pub bad_escape : (text : Bytes) → 3 ≤ length text → slice_index_or text 0 0 ≡ 37 → byte_of_digits (digit (slice_index_or text 1 0)) (digit (slice_index_or text 2 0)) ≡ None → (out : Bytes) → if_plain (undo_all (Plain, out) text) ≡ None
bad_escape [] long first e out = absurd (omega arith)
bad_escape (p ∷ []) long first e out = absurd (omega arith)
bad_escape (p ∷ h ∷ []) long first e out = absurd (omega arith)
bad_escape (p ∷ h ∷ l ∷ rest) long first e out =
    ap if_plain (percent p (h ∷ l ∷ rest) out first ∙ ap (λ s. undo_all s rest) (undo-none (digit h) l out e) ∙ undo_all-Broken out rest)

pub short_escape : (text : Bytes) → length text < 3 → slice_index_or text 0 0 ≡ 37 → (out : Bytes) → if_plain (undo_all (Plain, out) text) ≡ None
short_escape [] short first out = cc
short_escape (p ∷ []) short first out = ap if_plain (percent p [] out first)
short_escape (p ∷ h ∷ []) short first out = ap if_plain (percent p (h ∷ []) out first) ∙ if_plain-digit (digit h) out
short_escape (p ∷ h ∷ l ∷ rest) short first out = absurd (omega arith)
