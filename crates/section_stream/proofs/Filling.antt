-- A payload that is filled in three writes.
use Rattle.std.proofs.Common.{◌≡◌, ℕ, ◌+◌, ◌-◌, ◌≤◌, [], ◌∷◌, ◌++◌, length, drop, replicate, nat_lt, false, append-nil, refl, ◌∙◌, ap, arith, append_assoc, length-append, zero-add}
use Rattle.std.proofs.lemmas.List.{drop-replicate, length-replicate}
use Rattle.section_stream.specs.Cuts.{Bytes}
use Rattle.section_stream.specs.Packing.{with_stuffing}
use Rattle.section_stream.proofs.Parting.{written, one_more}

abbrev stuffing : ℕ → Bytes
stuffing n = replicate n 0xFF

pub three_writes : (pointer held front one two three : Bytes) → length pointer + length held + length front ≤ 184
    → one ≡ written 0 pointer (stuffing 184) → two ≡ written (length pointer) held one → three ≡ written (length pointer + length held) front two
    → three ≡ with_stuffing (pointer ++ (held ++ front))
three_writes pointer held front one two three h a b c =
    let both : length (pointer ++ held) ≡ length pointer + length held = length-append pointer held in
    let all : length ((pointer ++ held) ++ front) ≡ length pointer + length held + length front = omega (arith, both, length-append (pointer ++ held) front) in
    let size : length (stuffing 184) ≡ 184 = length-replicate {A = ℕ} 184 0xFF in
    let second = one_more 0 (length pointer) pointer held (stuffing 184) one two (omega (arith, h, size)) (omega arith) a b in
    one_more 0 (length pointer + length held) (pointer ++ held) front (stuffing 184) two three (omega (arith, h, size, both)) (omega (arith, both)) second c
    ∙ ap (λ xs. ((pointer ++ held) ++ front) ++ xs) (ap (λ k. drop k (stuffing 184)) (zero-add (length ((pointer ++ held) ++ front))) ∙ drop-replicate {X = ℕ} (length ((pointer ++ held) ++ front)) 184 0xFF)
    ∙ ap with_stuffing (append_assoc pointer held front)

-- a front that fills the payload stands alone in it
pub no_stuffing : (pointer held front : Bytes) → length pointer + length held + length front ≤ 184 → length front ≡ 184 → (with_stuffing (pointer ++ (held ++ front)) ≡ front) × (nat_lt 0 (length pointer) ≡ false)
no_stuffing [] [] front h e = let none : 184 - length front ≡ 0 = omega (arith, e) in (ap (λ n. front ++ replicate n 0xFF) none ∙ append-nil front, refl)
no_stuffing [] (x ∷ xs) front h e = absurd (omega (arith, h, e))
no_stuffing (x ∷ xs) held front h e = absurd (omega (arith, h, e))
