-- Decimal digits, and what `parse` reads of them.
use Rattle.std.proofs.Common.{◌≡◌, ℕ, ◌+◌, ◌-◌, ◌*◌, ◌^◌, ◌<◌, Bool, true, false, ◌&&◌, List, [], ◌∷◌, length, Result, Ok, Err, refl, arith, rules, lit<, ◌∙◌, sym, fold, SomeIff, OkIff, IsAscii, IsUtf8, leb-true}
use Rattle.std.specs.List.{list_all}
use Rattle.std.proofs.lemmas.Bool.{and_parts}
use Rattle.oc_bytes.specs.Decimals.{is_digit, is_decimal, decimal_value}
use Rattle.std.specs.Result.{result_ok}
use Rattle.std.specs.Str.Parse.{ParsesUnsigned}
use Rattle.std.proofs.lemmas.Str.{IsUtf8-from_ascii}
use Rattle.std.proofs.lemmas.Str.Ascii.{IsAscii-nil, IsAscii-cons}
use Rattle.std.proofs.lemmas.Str.Parse.{IsNumeralModel, numerals_by_fold, parse_digits}

and_true : (b : Bool) → b ≡ (b && true)
and_true true = refl
and_true false = refl

digits_of_decimal : (text : List ℕ) → is_decimal text ≡ true → (list_all is_digit text ≡ true) × (0 < length text)
digits_of_decimal [] h = cc
digits_of_decimal (c ∷ []) h = (sym (and_true (is_digit c)) ∙ h, lit< tt)
digits_of_decimal (c ∷ d ∷ cs) h = ((and_parts _ _ h).1, omega arith)

digit_is_ascii : (c : ℕ) → is_digit c ≡ true → c < 128
digit_is_ascii c h = omega (arith, leb-true c 57 (and_parts _ _ h).1)

ascii_of_digits : (text : List ℕ) → list_all is_digit text ≡ true → IsAscii text
ascii_of_digits [] h = IsAscii-nil
ascii_of_digits (c ∷ cs) h = IsAscii-cons c cs (digit_is_ascii c (and_parts _ _ h).0) (ascii_of_digits cs (and_parts _ _ h).1)

-- decimal digits are text
pub text_of_decimal : (text : List ℕ) → is_decimal text ≡ true → IsUtf8 text
text_of_decimal text h = IsUtf8-from_ascii text (ascii_of_digits text (digits_of_decimal text h).0)

own : IsNumeralModel (λ ds. list_all is_digit ds ≡ true) decimal_value
own = numerals_by_fold _ (search rules) (fold (λ n c. n * 10 + (c - 48))) (search rules)

some_of_ok : {E : Type 0} (r : Result ℕ E) (P Q : Type 0) (v : ℕ) → P → OkIff r (P × Q) v → SomeIff (result_ok r) Q v
some_of_ok (Ok x) P Q v p h = (h.0.1, h.1)
some_of_ok (Err e) P Q v p h = λ q. h (p, q)

-- what `parse` gives of decimal digits
pub parsed : {E : Type 0} (text : List ℕ) (r : Result ℕ E) → ParsesUnsigned 32 10 text r → is_decimal text ≡ true
    → SomeIff (result_ok r) (decimal_value text < 2 ^ 32) (decimal_value text)
parsed text r p h = some_of_ok r (0 < length text) _ _ (digits_of_decimal text h).1 (parse_digits own 32 text r p (digits_of_decimal text h).0)
