-- Digits of a file's bytes, piece by piece.
use Rattle.std.proofs.Common.{◌≡◌, ℕ, false, ◌==◌, List, [], ◌∷◌, ◌++◌, length, refl, sym, ap, ◌∙◌, append-nil, append_assoc}
use Rattle.std.specs.Prelude.{◌/◌, ◌%◌, slice_index}
use Rattle.hex.specs.Hex.{encode_with, encode_lower, lower_digits}
use Rattle.shell_words.specs.Reports.{content_word}

encode_more : (t xs ys : List ℕ) → encode_with t (xs ++ ys) ≡ encode_with t xs ++ encode_with t ys
unfolding encode_with
encode_more t [] ys = refl
encode_more t (x ∷ xs) ys = ap (λ (ds : List ℕ). slice_index t (x / 16) ∷ slice_index t (x % 16) ∷ ds) (encode_more t xs ys)

no_digits : encode_lower [] ≡ []
unfolding encode_with
no_digits = refl

-- a piece more
pub digits_more : (done all piece rest content : List ℕ) → done ++ encode_lower all ≡ content → all ≡ piece ++ rest → (done ++ encode_lower piece) ++ encode_lower rest ≡ content
digits_more done all piece rest content so_far cut =
    append_assoc done (encode_lower piece) (encode_lower rest)
    ∙ ap (λ (ds : List ℕ). done ++ ds) (sym (ap encode_lower cut ∙ encode_more lower_digits piece rest)) ∙ so_far

-- and none more
pub digits_end : (done rest content : List ℕ) → done ++ encode_lower rest ≡ content → rest ≡ [] → done ≡ content
digits_end done rest content so_far none =
    sym (append-nil done) ∙ ap (λ (ds : List ℕ). done ++ ds) (sym (ap encode_lower none ∙ no_digits)) ∙ so_far

pub content_is : (content : List ℕ) → (length content == 0) ≡ false → encode_lower content ≡ content_word content
content_is [] e = cc
content_is (b ∷ bs) e = refl
