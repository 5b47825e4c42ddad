-- What is kept beside a packet is what parsing it once more would give.
use Rattle.std.proofs.Common.{◌≡◌, ℕ, ◌-◌, ◌<◌, ◌≤◌, nat_lt, true, false, Option, Some, None, length, take, drop, refl, sym, ◌∙◌, ap, arith, length-drop}
use Rattle.std.proofs.lemmas.List.{take_all}
use Rattle.std.specs.Prelude.{Ok}
use Rattle.carousel_profile.specs.declared.TheConstants.{PACKET_LENGTH}
use Rattle.ts_packet.specs.Packets.{Fields, parse_packet}
use Rattle.section_stream.specs.Cuts.{Bytes}
use Rattle.section_stream.specs.Kept.{last_of}
use Rattle.section_stream.specs.Inner.Kept.{last_from}
use Rattle.section_stream.proofs.Places.{payload_short}

from_within : (place counter : ℕ) (packet : Bytes) → place < PACKET_LENGTH → last_from place counter packet ≡ Some (counter, drop place packet)
from_within place counter packet h = let fits : nat_lt place PACKET_LENGTH ≡ true = grind (arith, h) in rw fits refl

from_end : (place counter : ℕ) (packet : Bytes) → PACKET_LENGTH ≤ place → last_from place counter packet ≡ None
from_end place counter packet h = let fits : nat_lt place PACKET_LENGTH ≡ false = grind (arith, h) in rw fits refl

-- what stands in a packet from a place on
pub rest_in : (place : ℕ) (packet : Bytes) → length packet ≡ PACKET_LENGTH → take (PACKET_LENGTH - place) (drop place packet) ≡ drop place packet
rest_in place packet size = take_all (PACKET_LENGTH - place) (drop place packet) (omega (arith, length-drop place packet, size))

pub kept_some : (last : Option (ℕ × Bytes)) (place counter : ℕ) (packet payload : Bytes) → last ≡ last_from place counter packet → place < PACKET_LENGTH → payload ≡ drop place packet → last ≡ Some (counter, payload)
kept_some last place counter packet payload e h p = e ∙ from_within place counter packet h ∙ ap (λ (b : Bytes). Some (counter, b)) (sym p)

pub kept_none : (last : Option (ℕ × Bytes)) (place counter : ℕ) (packet : Bytes) → last ≡ last_from place counter packet → PACKET_LENGTH ≤ place → last ≡ None
kept_none last place counter packet e h = e ∙ from_end place counter packet h

pub kept_of_packet : (packet : Bytes) (p : Fields) (place : ℕ) → length packet ≡ PACKET_LENGTH → parse_packet packet ≡ Ok p → 0 < length p.payload → place ≡ PACKET_LENGTH - length p.payload
    → last_of (parse_packet packet) ≡ last_from place p.counter packet
kept_of_packet packet p place size is some at =
    let short : place < PACKET_LENGTH = omega (arith, at, some) in
    let rest : p.payload ≡ drop place packet = (payload_short packet size p is).0 ∙ ap (λ n. drop n packet) (sym at) in
    ap last_of is ∙ ap (λ (b : Bytes). Some (p.counter, b)) rest ∙ sym (from_within place p.counter packet short)
