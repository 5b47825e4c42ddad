-- Bytes in pieces of any size: 188 of them from the beginning are one packet, and so on (ISO/IEC 13818-1, 2.4.3.2).
use Rattle.std.specs.Prelude.{◌≡◌, ℕ, zero, suc, List, [], ◌∷◌, length, take, drop, nat_le, if◌then◌else◌}
use Rattle.carousel_profile.specs.declared.TheConstants.{PACKET_LENGTH}
use Rattle.section_stream.specs.Cuts.{Bytes}
use Rattle.section_stream.specs.Rules.{DemuxState, HasReceived, as_receiving}

-- packets of 188 bytes; a last piece that is shorter is no packet
abbrev pub packets_in : ℕ → Bytes → List Bytes
packets_in zero input = []
packets_in (suc steps) input = if nat_le PACKET_LENGTH (length input) then take PACKET_LENGTH input ∷ packets_in steps (drop PACKET_LENGTH input) else []

abbrev pub packets_of : Bytes → List Bytes
packets_of input = packets_in (length input) input

-- the bytes after the last whole packet
abbrev pub rest_in : ℕ → Bytes → Bytes
rest_in zero input = input
rest_in (suc steps) input = if nat_le PACKET_LENGTH (length input) then rest_in steps (drop PACKET_LENGTH input) else input

abbrev pub rest_of : Bytes → Bytes
rest_of input = rest_in (length input) input

-- the value stands for these bytes: for their whole packets, and it keeps the bytes after them
pub record StandsForBytes (d : DemuxState) (bytes : Bytes) : Type 0 where
  pub received : HasReceived (as_receiving d) (packets_of bytes)
  pub unfinished : d.unfinished ≡ rest_of bytes
