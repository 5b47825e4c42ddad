-- A number in all of some bytes, as the definitions and as the byte order read it.
use Rattle.std.proofs.Common.{◌≡◌, ℕ, ◌+◌, ◌*◌, ◌^◌, List, [], ◌∷◌, length, slice_index, fold, refl, sym, ◌∙◌, arith, mul_assoc, add-mul, zero-mul, subst}
use Rattle.std.proofs.Math.Nat.{pow-succ'}
use Rattle.byteorder.specs.Endian.{big_from}
use Rattle.byteorder.specs.Numbers.{big_from-cons}
use Rattle.oc_bytes.specs.Numbers.{number_of}

-- the digits after a number that was read so far
one_more : (a x p r : ℕ) → (a * 256 + x) * p + r ≡ a * (256 * p) + (x * p + r)
one_more a x p r = omega (arith, add-mul (a * 256) x p, mul_assoc a 256 p)

from_number : (a : ℕ) (xs : List ℕ) → fold (λ n b. n * 256 + b) a xs ≡ a * 256 ^ length xs + big_from 0 (length xs) xs
from_number a [] = omega arith
from_number a (x ∷ xs) =
    from_number (a * 256 + x) xs ∙ one_more a x (256 ^ length xs) (big_from 0 (length xs) xs)
    ∙ rw (pow-succ' 256 (length xs), big_from-cons 0 (length xs) x xs) refl

pub read_number : (n : ℕ) (xs : List ℕ) → length xs ≡ n → big_from 0 n xs ≡ number_of xs
read_number n xs e =
    let P : ℕ → Type 0 = λ k. big_from 0 k xs ≡ number_of xs in
    subst P e (omega (arith, from_number 0 xs, zero-mul (256 ^ length xs)))

pub read_one : (xs : List ℕ) → length xs ≡ 1 → slice_index xs 0 ≡ number_of xs
read_one xs e = sym (omega (arith, read_number 1 xs e))
