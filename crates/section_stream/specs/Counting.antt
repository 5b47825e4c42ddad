-- What each count of a demultiplexer counts, over all packets that it had: at how many of them this happens, which the packet and
-- those before it decide.
use Rattle.std.specs.Prelude.{◌≡◌, ℕ, zero, suc, ◌+◌, Bool, true, false, not, ◌&&◌, ◌||◌, List, [], ◌∷◌, ◌++◌, length, take, drop, slice_index, Option, Some, None, Result, Ok, Err, nat_lt, ◌==◌, if◌then◌else◌}
use Rattle.carousel_profile.specs.declared.TheConstants.{PACKET_LENGTH}
use Rattle.oc_bytes.specs.Outcome.{cap_at_u64}
use Rattle.ts_packet.specs.Packets.{Fields, parse_packet}
use Rattle.ts_packet.specs.declared.PacketFault.{PacketFault}
use Rattle.ts_packet.specs.declared.PacketFault.TheVariants.{NoSync, Errored, Scrambled, Reserved, BadField}
use Rattle.section_stream.specs.Cuts.{Bytes}
use Rattle.section_stream.specs.Rules.{DemuxState, StandsFor, Grown, Growing, Oversize, Whole, as_grown, at_start, after_all, is_last, jumps_from}
use Rattle.section_stream.specs.Pieces.{StandsForBytes, packets_of}
use Rattle.section_stream.specs.Steps.{kept_unless, no_section_in}
use Rattle.section_stream.specs.declared.counts.Counts.{Counts}

-- at how many packets of a list this happens, as it says of all packets before one and of that one; `before` came before the list
abbrev pub number_from : (List Bytes → Bytes → Bool) → List Bytes → List Bytes → ℕ
number_from happens before [] = 0
number_from happens before (x ∷ xs) = (if happens before x then 1 else 0) + number_from happens (before ++ x ∷ []) xs

-- at how many of all packets
abbrev pub number_of : (List Bytes → Bytes → Bool) → List Bytes → ℕ
number_of happens packets = number_from happens [] packets

abbrev pub is_fault : PacketFault → PacketFault → Bool
is_fault NoSync NoSync = true
is_fault Errored Errored = true
is_fault Scrambled Scrambled = true
is_fault Reserved Reserved = true
is_fault BadField BadField = true
is_fault a b = false

-- what a packet was parsed as is this fault
abbrev pub has_fault : PacketFault → Result Fields PacketFault → Bool
has_fault fault (Err f) = is_fault fault f
has_fault fault (Ok p) = false

-- it has no fault, and this holds of its fields
abbrev pub holds_of : (Fields → Bool) → Result Fields PacketFault → Bool
holds_of test (Err f) = false
holds_of test (Ok p) = test p

-- the packet has this fault
abbrev pub fault_at : PacketFault → List Bytes → Bytes → Bool
fault_at fault before x = has_fault fault (parse_packet x)

-- it is of another PID
abbrev pub other_pid_at : ℕ → List Bytes → Bytes → Bool
other_pid_at pid before x = holds_of (λ p. not (p.pid == pid)) (parse_packet x)

-- it is of the PID and has no payload
abbrev pub no_payload_at : ℕ → List Bytes → Bytes → Bool
no_payload_at pid before x = holds_of (λ p. (p.pid == pid) && (length p.payload == 0)) (parse_packet x)

-- it is of the PID and has a payload
abbrev pub has_payload : ℕ → Fields → Bool
has_payload pid p = (p.pid == pid) && not (length p.payload == 0)

-- the counter and the payload of a packet of the PID that has a payload
abbrev pub payload_in : ℕ → Bytes → Option (ℕ × Bytes)
payload_in pid x = go (parse_packet x) where
  go : Result Fields PacketFault → Option (ℕ × Bytes)
  go (Err f) = None
  go (Ok p) = if has_payload pid p then Some (p.counter, p.payload) else None

abbrev pub or_else : Option (ℕ × Bytes) → Option (ℕ × Bytes) → Option (ℕ × Bytes)
or_else (Some x) other = Some x
or_else None other = other

-- those of the last such packet of a list
abbrev pub last_payload : ℕ → List Bytes → Option (ℕ × Bytes)
last_payload pid [] = None
last_payload pid (x ∷ xs) = or_else (last_payload pid xs) (payload_in pid x)

-- it is of the PID, has a payload and is the one before it once more
abbrev pub duplicate_at : ℕ → List Bytes → Bytes → Bool
duplicate_at pid before x = holds_of (λ p. has_payload pid p && is_last p.counter p.payload (last_payload pid before)) (parse_packet x)

-- it is of the PID, has a payload and isn't the one before it once more: it is taken
abbrev pub is_taken : ℕ → List Bytes → Fields → Bool
is_taken pid before p = has_payload pid p && not (is_last p.counter p.payload (last_payload pid before))

-- it is taken, and packets are missing between it and the one before it
abbrev pub jump_at : ℕ → List Bytes → Bytes → Bool
jump_at pid before x = holds_of (λ p. is_taken pid before p && jumps_from p.counter (last_payload pid before)) (parse_packet x)

-- the bytes of the section that the packets before it left open, by the receiver's rules; none, where packets are missing before it
abbrev pub opened_before : ℕ → List Bytes → Fields → Option Bytes
opened_before pid before p = kept_unless (jumps_from p.counter (last_payload pid before)) (after_all (at_start pid) before).opened

abbrev pub nothing_open : Option Bytes → Bool
nothing_open None = true
nothing_open (Some bytes) = false

-- it is taken and begins no section, and none is open
abbrev pub orphan_at : ℕ → List Bytes → Bytes → Bool
orphan_at pid before x = holds_of (λ p. is_taken pid before p && (not p.start && nothing_open (opened_before pid before p))) (parse_packet x)

-- its pointer field points into its payload
abbrev pub pointer_is_within : Bytes → Bool
pointer_is_within payload = nat_lt (slice_index payload 0) (length payload)

-- it is taken and begins a section, by a pointer field that points after its payload
abbrev pub bad_pointer_at : ℕ → List Bytes → Bytes → Bool
bad_pointer_at pid before x = holds_of (λ p. is_taken pid before p && (p.start && not (pointer_is_within p.payload))) (parse_packet x)

-- the bytes of a payload that go on with the open section: all of them, or those before the section that the pointer field names
abbrev pub part_before : Bool → Bytes → Bytes
part_before start payload = if start then take (slice_index payload 0) (drop 1 payload) else payload

-- how far the open section has come with its bytes of the packet
abbrev pub open_grown : Option Bytes → Bytes → Option Grown
open_grown None part = None
open_grown (Some bytes) part = Some (as_grown (bytes ++ part))

abbrev pub is_growing : Option Grown → Bool
is_growing (Some Growing) = true
is_growing g = false

abbrev pub is_oversize : Option Grown → Bool
is_oversize (Some Oversize) = true
is_oversize g = false

-- how far the open section has come with its bytes of the packet, where it is taken
abbrev pub grown_at : ℕ → List Bytes → Fields → Option Grown
grown_at pid before p = open_grown (opened_before pid before p) (part_before p.start p.payload)

-- it is taken, a section begins in it, and the open one isn't complete
abbrev pub cut_at : ℕ → List Bytes → Bytes → Bool
cut_at pid before x = holds_of (λ p. is_taken pid before p && (p.start && pointer_is_within p.payload && is_growing (grown_at pid before p))) (parse_packet x)

-- it is taken, and with its bytes the length field of the open section is seen to be too great
abbrev pub open_oversize_at : ℕ → List Bytes → Bytes → Bool
open_oversize_at pid before x = holds_of (λ p. is_taken pid before p && ((not p.start || pointer_is_within p.payload) && is_oversize (grown_at pid before p))) (parse_packet x)

-- of the sections that stand back to back at the front of these bytes the one after the complete ones has too great a length field
abbrev pub last_is_oversize : ℕ → Bytes → Bool
last_is_oversize zero here = false
last_is_oversize (suc steps) here = if no_section_in here then false else go (last_is_oversize steps) (as_grown here) where
  go : (Bytes → Bool) → Grown → Bool
  go more Growing = false
  go more Oversize = true
  go more (Whole n) = more (drop n here)

-- it is taken, and a section that begins in it has too great a length field, which stands in it too
abbrev pub begun_oversize_at : ℕ → List Bytes → Bytes → Bool
begun_oversize_at pid before x =
    holds_of (λ p. is_taken pid before p && (p.start && pointer_is_within p.payload && last_is_oversize PACKET_LENGTH (drop (1 + slice_index p.payload 0) p.payload))) (parse_packet x)

-- The counts over all packets; each stays at the greatest u64. A packet may show two sections with too great a length field: the open
-- one, and one that begins in it.
abbrev pub counts_over : ℕ → List Bytes → Counts
counts_over pid packets = record {
  packets = cap_at_u64 (length packets);
  no_sync = cap_at_u64 (number_of (fault_at NoSync) packets);
  errored = cap_at_u64 (number_of (fault_at Errored) packets);
  scrambled = cap_at_u64 (number_of (fault_at Scrambled) packets);
  reserved = cap_at_u64 (number_of (fault_at Reserved) packets);
  bad_field = cap_at_u64 (number_of (fault_at BadField) packets);
  other_pid = cap_at_u64 (number_of (other_pid_at pid) packets);
  no_payload = cap_at_u64 (number_of (no_payload_at pid) packets);
  duplicates = cap_at_u64 (number_of (duplicate_at pid) packets);
  jumps = cap_at_u64 (number_of (jump_at pid) packets);
  orphans = cap_at_u64 (number_of (orphan_at pid) packets);
  bad_pointer = cap_at_u64 (number_of (bad_pointer_at pid) packets);
  cut = cap_at_u64 (number_of (cut_at pid) packets);
  oversize = cap_at_u64 (number_of (open_oversize_at pid) packets + number_of (begun_oversize_at pid) packets);
  short_tail = 0;
}

-- Each count but that of last pieces that are too short, which stand in no list of packets, is what it counts over all packets:
-- those that were fed one by one, or those that the bytes so far are.
pub record CountsAreNumbers : Type 0 where
  pub of_packets : (d : DemuxState) (packets : List Bytes) → StandsFor d packets → record d.counts { short_tail = 0 } ≡ counts_over d.pid packets
  pub of_bytes : (d : DemuxState) (bytes : Bytes) → StandsForBytes d bytes → record d.counts { short_tail = 0 } ≡ counts_over d.pid (packets_of bytes)
