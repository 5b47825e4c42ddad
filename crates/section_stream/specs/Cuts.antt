-- What is cut out of packets, looking forward from each place where a section opens (ISO/IEC 13818-1, 2.4.4):
-- its bytes are what is left of that packet, the payloads of the packets after it in its run, and the next start
-- packet's bytes before the place that its pointer field names. A run is a stretch of packets without duplicates in
-- which each counter is one above the last.
use Rattle.std.specs.Prelude.{ℕ, zero, suc, ◌+◌, ◌-◌, ◌%◌, Bool, not, ◌&&◌, ◌||◌, List, [], ◌∷◌, ◌++◌, length, map, take, drop, slice_index, Option, Some, None, Result, Ok, Err, nat_lt, nat_le, ◌==◌, if◌then◌else◌}
use Rattle.std.specs.List.{filter_map, enumerate_from}
use Rattle.std.specs.Str.{bytes_eq}
use Rattle.carousel_profile.specs.declared.TheConstants.{PACKET_LENGTH}
use Rattle.ts_packet.specs.Packets.{Fields, parse_packet}
use Rattle.ts_packet.specs.declared.PacketFault.{PacketFault}
use Rattle.oc_bytes.specs.declared.lengths.TheConstants.{MOST_LENGTH}
use Rattle.oc_bytes.specs.Numbers.{section_length}
pub use Rattle.oc_bytes.specs.Numbers.{Bytes}

-- a packet that parsed, and its number among all that came
pub record Received : Type 0 where
  pub number : ℕ
  pub start : Bool
  pub counter : ℕ
  pub payload : Bytes

abbrev pub kept_of : ℕ → ℕ → Result Fields PacketFault → Option Received
kept_of pid number (Ok p) =
    if (p.pid == pid) && not (length p.payload == 0)
    then Some (record { number = number; start = p.start; counter = p.counter; payload = p.payload })
    else None
kept_of pid number (Err fault) = None

-- the packets that parse, have the asked PID and a payload
abbrev pub payloads_in : ℕ → List Bytes → List Received
payloads_in pid packets = filter_map (λ x. kept_of pid x.0 (parse_packet x.1)) (enumerate_from 0 packets)

-- without those that repeat the counter and the payload of the one before them
abbrev pub without_repeats_of : Received → List Received → List Received
without_repeats_of a [] = []
without_repeats_of a (b ∷ bs) =
    if (a.counter == b.counter) && bytes_eq a.payload b.payload then without_repeats_of b bs
    else b ∷ without_repeats_of b bs

abbrev pub without_repeats : List Received → List Received
without_repeats [] = []
without_repeats (a ∷ bs) = a ∷ without_repeats_of a bs

-- the number p at the front of a start packet, and whether p bytes follow it
abbrev pub pointer_of : Received → ℕ
pointer_of p = slice_index p.payload 0

abbrev pub pointer_fits : Received → Bool
pointer_fits p = nat_lt (pointer_of p) (length p.payload)

-- the bytes after a packet that go on in its run, up to the next start packet and that packet's first part
abbrev pub going_on : ℕ → List Received → Bytes
going_on counter [] = []
going_on counter (q ∷ qs) =
    if not (q.counter == (counter + 1) % 16) then []
    else (if q.start then (if pointer_fits q then take (pointer_of q) (drop 1 q.payload) else [])
    else q.payload ++ going_on q.counter qs)

-- the length of the section at the front of these bytes, where it is whole there
abbrev pub whole_len : Bytes → Option ℕ
whole_len bytes =
    let n = section_length bytes in
    if nat_le 3 (length bytes) && nat_le n MOST_LENGTH && nat_le (3 + n) (length bytes) then Some (3 + n) else None

-- a candidate: in which packet and at which of its 188 bytes it opened, and its bytes
pub record Cut : Type 0 where
  pub packet : ℕ
  pub offset : ℕ
  pub bytes : Bytes

-- the candidates that open in one packet, where `here` is what is left of it and `later` the bytes after it
abbrev pub opened_in : ℕ → ℕ → Bytes → Bytes → List Cut
opened_in zero number here later = []
opened_in (suc steps) number here later =
    if (length here == 0) || (slice_index here 0 == 0xFF) then []
    else go (opened_in steps number) (whole_len (here ++ later)) where
      go : (Bytes → Bytes → List Cut) → Option ℕ → List Cut
      go more (Some n) = record { packet = number; offset = PACKET_LENGTH - length here; bytes = take n (here ++ later) }
          ∷ (if nat_le n (length here) then more (drop n here) later else [])
      go more None = []

abbrev pub cuts_at : Received → List Received → List Cut
cuts_at p later =
    if p.start && pointer_fits p
    then opened_in PACKET_LENGTH p.number (drop (1 + pointer_of p) p.payload) (going_on p.counter later)
    else []

abbrev pub cuts_of : List Received → List Cut
cuts_of [] = []
cuts_of (p ∷ ps) = cuts_at p ps ++ cuts_of ps

abbrev pub cuts : ℕ → List Bytes → List Cut
cuts pid packets = cuts_of (without_repeats (payloads_in pid packets))

-- the candidates themselves
abbrev pub candidates : ℕ → List Bytes → List Bytes
candidates pid packets = map (λ c. c.bytes) (cuts pid packets)

-- Sections that stand one after another: at each place where three bytes are left, and as many after them as
-- their length field says, those are the next. Else the input ends, and what is left is passed over.
abbrev pub back_to_back_in : ℕ → Bytes → List Bytes
back_to_back_in zero bytes = []
back_to_back_in (suc steps) bytes =
    let n = 3 + section_length bytes in
    if nat_le 3 (length bytes) && nat_le n (length bytes) then take n bytes ∷ back_to_back_in steps (drop n bytes) else []

abbrev pub back_to_back : Bytes → List Bytes
back_to_back bytes = back_to_back_in (length bytes) bytes
