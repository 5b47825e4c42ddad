-- The CRC over bytes and their own CRC is 0.
use Rattle.std.proofs.Common.{ℕ, zero, suc, ◌≡◌, ◌*◌, ◌/◌, ◌%◌, ◌^◌, ◌<◌, Bool, true, false, cond, eqb, List, [], ◌∷◌, ◌++◌, refl, sym, ap, ◌∙◌, arith, bit_xor, lit<}
use Rattle.std.proofs.lemmas.Bool.{eq-eqb, cond-true}
use Rattle.std.proofs.lemmas.Nat.{xor_lt}
use Rattle.std.specs.List.{fold}
use Rattle.oc_bytes.specs.Numbers.{four_bytes}
use Rattle.section_crc.specs.Crc.{crc_bit, crc_bits, crc_byte, crc_of}

-- where the state's own top bit comes, the state is shifted alone
own_bit : (state bit : ℕ) → state / 2 ^ 31 ≡ bit → crc_bit state bit ≡ state * 2 % 2 ^ 32
own_bit state bit h = cond-true _ _ _ (eq-eqb _ _ h)

-- where the state's own top bits come, most significant first, the state is shifted by as many
own_bits : (n : ℕ) (state byte : ℕ) (left : ℕ) → state / 2 ^ 31 ≡ byte / 2 ^ n % 2 → crc_bits n (state * 2 % 2 ^ 32) byte ≡ left → crc_bits (suc n) state byte ≡ left
own_bits n state byte left h g = ap (λ s. crc_bits n s byte) (own_bit state (byte / 2 ^ n % 2) h) ∙ g

own_byte : (state : ℕ) → state < 2 ^ 32 → crc_byte state (state / 2 ^ 24 % 256) ≡ state * 256 % 2 ^ 32
own_byte state h =
    let byte = state / 2 ^ 24 % 256 in
    let s1 = state * 2 % 2 ^ 32 in
    let s2 = s1 * 2 % 2 ^ 32 in
    let s3 = s2 * 2 % 2 ^ 32 in
    let s4 = s3 * 2 % 2 ^ 32 in
    let s5 = s4 * 2 % 2 ^ 32 in
    let s6 = s5 * 2 % 2 ^ 32 in
    let s7 = s6 * 2 % 2 ^ 32 in
    own_bits 7 state byte _ (omega arith)
    (own_bits 6 s1 byte _ (omega arith)
    (own_bits 5 s2 byte _ (omega arith)
    (own_bits 4 s3 byte _ (omega arith)
    (own_bits 3 s4 byte _ (omega arith)
    (own_bits 2 s5 byte _ (omega arith)
    (own_bits 1 s6 byte _ (omega arith)
    (own_bits 0 s7 byte _ (omega arith) (omega arith))))))))

-- the same where the byte is known by another name
next : (state byte : ℕ) → state < 2 ^ 32 → state / 2 ^ 24 % 256 ≡ byte → crc_byte state byte ≡ state * 256 % 2 ^ 32
next state byte h e = ap (λ b. crc_byte state b) (sym e) ∙ own_byte state h

cond_below : (b : Bool) (x y : ℕ) → x < 2 ^ 32 → y < 2 ^ 32 → cond b x y < 2 ^ 32
cond_below true x y h g = h
cond_below false x y h g = g

-- a state stays a number of 32 bits
bit_below : (state bit : ℕ) → crc_bit state bit < 2 ^ 32
bit_below state bit =
    let shifted = state * 2 % 2 ^ 32 in
    let low : shifted < 2 ^ 32 = omega arith in
    cond_below (eqb (state / 2 ^ 31) bit) shifted (bit_xor shifted 0x04C11DB7) low (xor_lt 32 shifted 0x04C11DB7 low (lit< tt))

bits_below : (n state byte : ℕ) → state < 2 ^ 32 → crc_bits n state byte < 2 ^ 32
bits_below zero state byte h = h
bits_below (suc n) state byte h = bits_below n (crc_bit state (byte / 2 ^ n % 2)) byte (bit_below state (byte / 2 ^ n % 2))

fold_below : (bytes : List ℕ) (state : ℕ) → state < 2 ^ 32 → fold crc_byte state bytes < 2 ^ 32
fold_below [] state h = h
fold_below (b ∷ bs) state h = fold_below bs (crc_byte state b) (bits_below 8 state b h)

fold_append : (xs ys : List ℕ) (state : ℕ) → fold crc_byte state (xs ++ ys) ≡ fold crc_byte (fold crc_byte state xs) ys
fold_append [] ys state = refl
fold_append (x ∷ xs) ys state = fold_append xs ys (crc_byte state x)

own_bytes : (state : ℕ) → state < 2 ^ 32 → fold crc_byte state (four_bytes state) ≡ 0
own_bytes s h =
    let s1 = s * 256 % 2 ^ 32 in
    let s2 = s1 * 256 % 2 ^ 32 in
    let s3 = s2 * 256 % 2 ^ 32 in
    ap (λ x. fold crc_byte x (s / 65536 % 256 ∷ s / 256 % 256 ∷ s % 256 ∷ [])) (own_byte s h)
    ∙ ap (λ x. fold crc_byte x (s / 256 % 256 ∷ s % 256 ∷ [])) (next s1 (s / 65536 % 256) (omega arith) (omega arith))
    ∙ ap (λ x. fold crc_byte x (s % 256 ∷ [])) (next s2 (s / 256 % 256) (omega arith) (omega arith))
    ∙ next s3 (s % 256) (omega arith) (omega arith)
    ∙ omega arith

pub its_own_crc : (bytes : List ℕ) → crc_of (bytes ++ four_bytes (crc_of bytes)) ≡ 0
its_own_crc bytes = fold_append bytes (four_bytes (crc_of bytes)) 0xFFFFFFFF ∙ own_bytes (crc_of bytes) (fold_below bytes 0xFFFFFFFF (lit< tt))
