-- Sections out of two pieces, and lists of them.
use Rattle.std.proofs.Common.{◌≡◌, ℕ, ◌+◌, ◌-◌, ◌≤◌, min, List, [], ◌∷◌, ◌++◌, length, map, take, refl, ◌∙◌, ap, arith, append-nil, inl, inr}
use Rattle.std.specs.declared.vec.Vec.{Vec}
use Rattle.std.specs.declared.alloc.Global.{Global}
use Rattle.std.proofs.lemmas.Bool.{cases_lt}
use Rattle.std.proofs.lemmas.List.{map-append, take-append-le}
use Rattle.std.proofs.Math.Seq.{take-append-add, take-length}
use Rattle.section_stream.specs.Cuts.{Bytes}
use Rattle.section_stream.specs.Kept.{view_bytes}

-- one more candidate
pub candidates-push : (old : List (Vec ℕ Global)) (section : Vec ℕ Global) (new : List (Vec ℕ Global)) (bytes : Bytes)
    → new ≡ old ++ section ∷ [] → section.items ≡ bytes → map view_bytes new ≡ map view_bytes old ++ bytes ∷ []
candidates-push old section new bytes e f = rw (e, map-append) (ap (λ (b : Bytes). map view_bytes old ++ b ∷ []) f)

-- the front of two pieces
front_alone : (n : ℕ) (front back : Bytes) → n ≤ length front → take n (front ++ back) ≡ take (min n (length front)) front ++ take (n - min n (length front)) back
front_alone n front back h =
    let m : min n (length front) ≡ n = omega arith in
    let z : n - n ≡ 0 = omega arith in
    rw (m, z, take-append-le n front back h, append-nil) refl

front_and_more : (n : ℕ) (front back : Bytes) → length front ≤ n → take n (front ++ back) ≡ take (min n (length front)) front ++ take (n - min n (length front)) back
front_and_more n front back h =
    let m : min n (length front) ≡ length front = omega arith in
    let s : n ≡ length front + (n - length front) = omega arith in
    rw (m, take-length front) (ap (λ k. take k (front ++ back)) s ∙ take-append-add front back (n - length front))

pub take-pieces : (n : ℕ) (front back : Bytes) → take n (front ++ back) ≡ take (min n (length front)) front ++ take (n - min n (length front)) back
take-pieces n front back = elim (cases_lt n (length front)) [ inl h ↦ front_alone n front back (omega (arith, h)) | inr h ↦ front_and_more n front back h ]
