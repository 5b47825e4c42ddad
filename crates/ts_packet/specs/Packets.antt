-- Transport packets of 188 bytes (ISO/IEC 13818-1, 2.4.3.2 to 2.4.3.5).
use Rattle.std.specs.Prelude.{ℕ, ◌+◌, ◌*◌, ◌/◌, ◌%◌, Bool, cond, not, List, [], ◌∷◌, drop, slice_index, Result, Ok, Err, nat_lt, ◌==◌, ◌&&◌, if◌then◌else◌}
use Rattle.ts_packet.specs.declared.PacketFault.{PacketFault}
use Rattle.ts_packet.specs.declared.PacketFault.TheVariants.{NoSync, Errored, Scrambled, Reserved, BadField}
use Rattle.ts_packet.specs.declared.Packet.{Packet}

-- what a packet says to a receiver of sections
pub record Fields : Type 0 where
  pub pid : ℕ
  pub start : Bool
  pub counter : ℕ
  pub payload : List ℕ

abbrev pub view : Packet → Fields
view p = record { pid = p.pid; start = p.start; counter = p.counter; payload = p.payload.now }

-- the two bits that say what stands after the header: 1 a payload, 2 an adaptation field, 3 both
abbrev pub control : List ℕ → ℕ
control bytes = slice_index bytes 3 / 16 % 4

-- the fields, or the first fault that holds; the payload is the bytes after the header of four, and after the
-- adaptation field's length and its bytes
abbrev pub parse_packet : List ℕ → Result Fields PacketFault
parse_packet bytes =
    if not (slice_index bytes 0 == 0x47) then Err NoSync
    else (if slice_index bytes 1 / 128 == 1 then Err Errored
    else (if not (slice_index bytes 3 / 64 == 0) then Err Scrambled
    else (if control bytes == 0 then Err Reserved
    else (if (control bytes == 3) && nat_lt 182 (slice_index bytes 4) then Err BadField
    else Ok (record {
      pid = slice_index bytes 1 % 32 * 256 + slice_index bytes 2;
      start = slice_index bytes 1 / 64 % 2 == 1;
      counter = slice_index bytes 3 % 16;
      payload = if control bytes == 1 then drop 4 bytes
          else (if control bytes == 3 then drop (5 + slice_index bytes 4) bytes else []);
    })))))

-- no fault, and a payload right after the header of four bytes
abbrev pub is_plain : List ℕ → Bool
is_plain bytes = (slice_index bytes 0 == 0x47) && ((slice_index bytes 1 / 128 == 0) && (slice_index bytes 3 / 16 == 1))

abbrev pub bit_of : Bool → ℕ
bit_of b = cond b 1 0

-- a packet with a payload and no adaptation field: sync byte; no error, the start indicator, no priority,
-- and the PID in 13 bits; not scrambled, control 01, and the counter in 4 bits
abbrev pub packet_bytes : ℕ → Bool → ℕ → List ℕ → List ℕ
packet_bytes pid start counter payload = 0x47 ∷ (64 * bit_of start + pid / 256) ∷ (pid % 256) ∷ (16 + counter) ∷ payload
