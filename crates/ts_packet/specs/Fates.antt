-- What becomes of a packet on its way. This project's own rules.
use Rattle.std.specs.Prelude.{ℕ, ◌-◌, ◌*◌, ◌/◌, ◌%◌, ◌^◌, List, Option, Some, None, bit_xor, slice_index, slice_set}
use Rattle.carousel_profile.specs.declared.TheConstants.{PACKET_LENGTH}
use Rattle.ts_packet.specs.declared.Fate.{Fate}
use Rattle.ts_packet.specs.declared.Fate.TheVariants.{Keep, Lose, Flip}

-- the packet with one bit inverted, counted from the most significant bit of the first byte
abbrev pub flip_bit : (bit : ℕ) → List ℕ → List ℕ
flip_bit bit packet = slice_set packet (bit / 8) (bit_xor (slice_index packet (bit / 8)) (2 ^ (7 - bit % 8)))

-- what arrives of a packet: a bit is counted modulo the bits of a packet
abbrev pub arrival_of : Fate → List ℕ → Option (List ℕ)
arrival_of Keep packet = Some packet
arrival_of Lose packet = None
arrival_of (Flip bit) packet = Some (flip_bit (bit % (8 * PACKET_LENGTH)) packet)
