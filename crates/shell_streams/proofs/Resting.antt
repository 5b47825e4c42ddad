-- The bytes of an input after its last whole packet.
use Rattle.std.proofs.Common.{◌≡◌, ℕ, zero, suc, ◌<◌, ◌≤◌, nat_le, cond, List, [], ◌∷◌, ◌++◌, length, drop, Option, Some, None, ◌⊎◌, inl, inr, refl, arith, ◌∙◌, sym, ap, append_assoc, append-nil, length-drop, length-append}
use Rattle.std.specs.List.{concat}
use Rattle.std.proofs.lemmas.Bool.{cond-true, cond-false, le-leb, lt-leb, cases_lt}
use Rattle.std.proofs.lemmas.Option.{same_Some}
use Rattle.std.proofs.lemmas.List.{drop_at}
use Rattle.carousel_profile.specs.declared.TheConstants.{PACKET_LENGTH}
use Rattle.oc_bytes.specs.Outcome.{Known}
use Rattle.section_stream.specs.Pieces.{rest_in, rest_of}
use Rattle.shell_streams.specs.Cuts.{Bytes}
use Rattle.shell_streams.specs.Packets.{onto_left, packets_of, AreSized, AreTaken}
use Rattle.shell_streams.specs.Inner.Packets.{AreAllTaken}
use Rattle.shell_streams.proofs.Packeting.{packet_some, packets_before}

-- too few bytes for a packet
few_in : (steps : ℕ) (bytes : Bytes) → length bytes < PACKET_LENGTH → rest_in steps bytes ≡ bytes
few_in zero bytes h = refl
few_in (suc steps) bytes h = cond-false (nat_le PACKET_LENGTH (length bytes)) (rest_in steps (drop PACKET_LENGTH bytes)) bytes (lt-leb PACKET_LENGTH (length bytes) h)

-- enough steps give the same bytes
rest_steps : (m n : ℕ) (bytes : Bytes) → length bytes ≤ m → length bytes ≤ n → rest_in m bytes ≡ rest_in n bytes
rest_steps zero n bytes h k = sym (few_in n bytes (omega arith))
rest_steps (suc m) zero bytes h k = few_in (suc m) bytes (omega arith)
rest_steps (suc m) (suc n) bytes h k = both m n bytes h k (rest_steps m n (drop PACKET_LENGTH bytes))
  where
    both : (m n : ℕ) (bytes : Bytes) → length bytes ≤ suc m → length bytes ≤ suc n
        → (length (drop PACKET_LENGTH bytes) ≤ m → length (drop PACKET_LENGTH bytes) ≤ n → rest_in m (drop PACKET_LENGTH bytes) ≡ rest_in n (drop PACKET_LENGTH bytes)) → rest_in (suc m) bytes ≡ rest_in (suc n) bytes
    both m n bytes h k rest = ap (λ t. cond (nat_le PACKET_LENGTH (length bytes)) t bytes) (rest (omega (arith, length-drop PACKET_LENGTH bytes)) (omega (arith, length-drop PACKET_LENGTH bytes)))

rest_some : (bytes : Bytes) → PACKET_LENGTH ≤ length bytes → rest_of bytes ≡ rest_of (drop PACKET_LENGTH bytes)
rest_some bytes h =
    rest_steps (length bytes) (suc (length bytes)) bytes (omega arith) (omega arith)
    ∙ cond-true (nat_le PACKET_LENGTH (length bytes)) (rest_in (length bytes) (drop PACKET_LENGTH bytes)) bytes (le-leb PACKET_LENGTH (length bytes) h)
    ∙ rest_steps (length bytes) (length (drop PACKET_LENGTH bytes)) (drop PACKET_LENGTH bytes) (omega (arith, length-drop PACKET_LENGTH bytes)) (omega arith)

rest_at : (p bytes : Bytes) → length p ≡ PACKET_LENGTH → rest_of (p ++ bytes) ≡ rest_of bytes
rest_at p bytes h = rest_some (p ++ bytes) (omega (arith, length-append p bytes)) ∙ ap rest_of (drop_at p bytes PACKET_LENGTH h)

-- packets in front of other bytes
rest_before : (packets : List Bytes) (bytes : Bytes) → AreSized packets → rest_of (concat packets ++ bytes) ≡ rest_of bytes
rest_before [] bytes h = refl
rest_before (p ∷ ps) bytes h = ap rest_of (append_assoc p (concat ps) bytes) ∙ rest_at p (concat ps ++ bytes) h.0 ∙ rest_before ps bytes h.1

-- what is left after all packets
rest_here : (packets : List Bytes) (input held : Bytes) → AreTaken packets input held → packets_of input ≡ packets → rest_of input ≡ held
rest_here packets input held t all = ap rest_of t.whole ∙ rest_before packets held t.sizes ∙ by (cases_lt (length held) PACKET_LENGTH)
  where
    by : (length held < PACKET_LENGTH) ⊎ (PACKET_LENGTH ≤ length held) → rest_of held ≡ held
    by (inl short) = few_in (length held) held short
    by (inr long) =
        let split : packets ≡ packets ++ packets_of held = sym all ∙ ap packets_of t.whole ∙ packets_before packets held t.sizes in
        absurd (omega (arith, ap length split, length-append packets (packets_of held), ap length (packet_some held long)))

-- so many bytes are held after all packets
pub rest_held : (start left : Option Bytes) (held : Bytes) (packets : List Bytes) (n : ℕ) → n ≡ length held → Known start (onto_left held left) (AreTaken packets)
    → Known start left (AreAllTaken packets) → Known start left (λ input _. n ≡ length (rest_of input))
rest_held start left held packets n e t all = record { kept = all.kept; each = λ x y i o. by left x y i o t (all.each x y i o) }
  where
    by : (left : Option Bytes) (x y : Bytes) → start ≡ Some x → left ≡ Some y → Known start (onto_left held left) (AreTaken packets) → AreAllTaken packets x y → n ≡ length (rest_of x)
    by (Some l) x y i o t a =
        let none : l ≡ [] = same_Some l y o ∙ a.to_end in
        let taken : AreTaken packets x held = rw (append-nil held) at (rw none at (t.each x (held ++ l) i refl)) in
        e ∙ ap length (sym (rest_here packets x held taken a.all))
    by None x y i o t a = cc
