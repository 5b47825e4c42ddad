-- Bytes that lie in three places.
use Rattle.std.proofs.Common.{◌≡◌, ℕ, ◌+◌, ◌-◌, ◌≤◌, ◌<◌, ◌⊎◌, inl, inr, min, ◌++◌, length, take, drop, sym, ◌∙◌, ap, arith, append_assoc, length-append, length-take, drop-drop}
use Rattle.std.proofs.lemmas.Bool.{cases_lt}
use Rattle.std.proofs.lemmas.List.{take_min, drop_all, drop-append-le}
use Rattle.std.proofs.Math.Seq.{take-append_seam, drop-append-add}
use Rattle.section_stream.specs.Cuts.{Bytes}
use Rattle.section_stream.proofs.Pieces.{take-pieces}

-- ---- a cut through two pieces, and through three

take_over : (n : ℕ) (front back : Bytes) → take n (front ++ back) ≡ take n front ++ take (n - length (take n front)) back
take_over n front back =
    take-pieces n front back ∙ ap (λ x. x ++ take (n - min n (length front)) back) (take_min n front) ∙ ap (λ k. take n front ++ take (n - k) back) (sym (length-take n front))

drop_over : (n : ℕ) (front back : Bytes) → drop n (front ++ back) ≡ drop n front ++ drop (n - length (take n front)) back
drop_over n front back = go (cases_lt n (length front)) where
  go : (n < length front) ⊎ (length front ≤ n) → drop n (front ++ back) ≡ drop n front ++ drop (n - length (take n front)) back
  go (inl h) =
      let none : n - length (take n front) ≡ 0 = omega (arith, h, length-take n front) in
      drop-append-le n front back (omega (arith, h)) ∙ ap (λ k. drop n front ++ drop k back) (sym none)
  go (inr h) =
      let all : n ≡ length front + (n - length (take n front)) = omega (arith, h, length-take n front) in
      ap (λ k. drop k (front ++ back)) all ∙ drop-append-add front back (n - length (take n front))
      ∙ ap (λ x. x ++ drop (n - length (take n front)) back) (sym (drop_all n front h))

pub taken : (n : ℕ) (front body tail whole x y z : Bytes) → front ++ (body ++ tail) ≡ whole → x ≡ take n front → y ≡ take (n - length x) body → z ≡ take (n - length x - length y) tail
    → x ++ (y ++ z) ≡ take n whole
taken n front body tail whole x y z w a b c =
    ap (λ v. x ++ (y ++ v)) c ∙ ap (λ v. x ++ (v ++ take (n - length x - length v) tail)) b ∙ ap (λ v. x ++ v) (sym (take_over (n - length x) body tail))
    ∙ ap (λ v. v ++ take (n - length v) (body ++ tail)) a ∙ sym (take_over n front (body ++ tail)) ∙ ap (take n) w

pub left : (n : ℕ) (front body tail whole x y u v w : Bytes) → front ++ (body ++ tail) ≡ whole → x ≡ take n front → y ≡ take (n - length x) body
    → u ≡ drop n front → v ≡ drop (n - length x) body → w ≡ drop (n - length x - length y) tail → u ++ (v ++ w) ≡ drop n whole
left n front body tail whole x y u v w e a b f g h =
    ap (λ s. u ++ (v ++ s)) h ∙ ap (λ s. u ++ (s ++ drop (n - length x - length y) tail)) g ∙ ap (λ s. u ++ (drop (n - length x) body ++ drop (n - length x - length s) tail)) b
    ∙ ap (λ s. u ++ s) (sym (drop_over (n - length x) body tail)) ∙ ap (λ s. s ++ drop (n - length x) (body ++ tail)) f
    ∙ ap (λ s. drop n front ++ drop (n - length s) (body ++ tail)) a ∙ sym (drop_over n front (body ++ tail)) ∙ ap (drop n) e

-- ---- one write after another

-- these bytes were written from a place on
abbrev pub written : ℕ → Bytes → Bytes → Bytes
written at bytes to = take at to ++ (bytes ++ drop (at + length bytes) to)

pub one_more : (at place : ℕ) (first second to one two : Bytes) → at + length first ≤ length to → place ≡ at + length first → one ≡ written at first to → two ≡ written place second one
    → two ≡ written at (first ++ second) to
one_more at place first second to one two h p a b =
    let front = take at to ++ first in
    let size : place ≡ length front = omega (arith, h, p, length-append (take at to) first, length-take at to) in
    let flat : one ≡ front ++ drop place to = a ∙ ap (λ k. take at to ++ (first ++ drop k to)) (sym p) ∙ sym (append_assoc (take at to) first (drop place to)) in
    b ∙ ap (λ x. take place x ++ (second ++ drop (place + length second) x)) flat
    ∙ ap (λ k. take k (front ++ drop place to) ++ (second ++ drop (k + length second) (front ++ drop place to))) size
    ∙ ap (λ x. x ++ (second ++ drop (length front + length second) (front ++ drop place to))) (take-append_seam front (drop place to))
    ∙ ap (λ x. front ++ (second ++ x)) (drop-append-add front (drop place to) (length second) ∙ drop-drop (length second) place to)
    ∙ ap (λ k. front ++ (second ++ drop k to)) (omega (arith, p, length-append first second))
    ∙ append_assoc (take at to) first (second ++ drop (at + length (first ++ second)) to)
    ∙ ap (λ x. take at to ++ x) (sym (append_assoc first second (drop (at + length (first ++ second)) to)))
