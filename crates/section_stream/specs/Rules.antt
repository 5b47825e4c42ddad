-- The receiver's rules on one packet after another: what is kept, and what is counted. What a duplicate
-- packet is and how the counter goes on are of ISO/IEC 13818-1, 2.4.3.3, and the pointer field is of 2.4.4;
-- what is counted, and that a section whose packets are missing is dropped, are this project's own rules.
use Rattle.std.specs.Prelude.{◌≡◌, ℕ, zero, suc, ◌+◌, ◌%◌, Bool, true, false, not, ◌&&◌, ◌||◌, List, [], ◌∷◌, ◌++◌, length, take, drop, slice_index, Option, Some, None, Result, Ok, Err, nat_lt, nat_le, ◌==◌, if◌then◌else◌}
use Rattle.std.specs.Str.{bytes_eq}
use Rattle.carousel_profile.specs.declared.TheConstants.{PACKET_LENGTH}
use Rattle.oc_bytes.specs.Outcome.{cap_at_u64}
use Rattle.ts_packet.specs.Packets.{Fields, parse_packet}
use Rattle.ts_packet.specs.declared.PacketFault.{PacketFault}
use Rattle.ts_packet.specs.declared.PacketFault.TheVariants.{NoSync, Errored, Scrambled, Reserved, BadField}
use Rattle.section_stream.specs.Cuts.{Bytes}
use Rattle.section_stream.specs.declared.counts.Counts.{Counts}
use Rattle.oc_bytes.specs.declared.lengths.TheConstants.{MOST_LENGTH}
use Rattle.oc_bytes.specs.Numbers.{section_length}

pub record Receiving : Type 0 where
  pub pid : ℕ
  -- the counter and payload of the last packet that counts
  pub last : Option (ℕ × Bytes)
  -- the bytes of the section that is open
  pub opened : Option Bytes
  pub counts : Counts

abbrev pub nothing_counted : Counts
nothing_counted = record {
  packets = 0;
  no_sync = 0;
  errored = 0;
  scrambled = 0;
  reserved = 0;
  bad_field = 0;
  other_pid = 0;
  no_payload = 0;
  duplicates = 0;
  jumps = 0;
  orphans = 0;
  bad_pointer = 0;
  cut = 0;
  oversize = 0;
  short_tail = 0;
}

-- one more, or the greatest count
abbrev pub up : ℕ → ℕ
up n = cap_at_u64 (n + 1)

abbrev pub count_fault : PacketFault → Counts → Counts
count_fault NoSync c = record c { no_sync = up c.no_sync }
count_fault Errored c = record c { errored = up c.errored }
count_fault Scrambled c = record c { scrambled = up c.scrambled }
count_fault Reserved c = record c { reserved = up c.reserved }
count_fault BadField c = record c { bad_field = up c.bad_field }

-- how far bytes from a section's first on have come
pub data Grown : Type 0 where
  Growing : Grown
  Oversize : Grown
  Whole : ℕ → Grown

abbrev pub as_grown : Bytes → Grown
as_grown bytes =
    let n = section_length bytes in
    if nat_lt (length bytes) 3 then Growing
    else (if nat_lt MOST_LENGTH n then Oversize else (if nat_le (3 + n) (length bytes) then Whole (3 + n) else Growing))

-- what one packet leaves: the open section, the candidates, and the counts
pub record After : Type 0 where
  pub opened : Option Bytes
  pub out : List Bytes
  pub counts : Counts

abbrev pub with_out : List Bytes → After → After
with_out out a = record { opened = a.opened; out = out ++ a.out; counts = a.counts }

-- Sections are opened one after another in what is left of a start packet. The first that isn't whole
-- stays open, one with too great a length field ends the packet, and so does stuffing.
abbrev pub open_on : ℕ → Bytes → Counts → After
open_on zero here c = record { opened = None; out = []; counts = c }
open_on (suc steps) here c =
    if (length here == 0) || (slice_index here 0 == 0xFF) then record { opened = None; out = []; counts = c }
    else go (λ rest. open_on steps rest c) (as_grown here) where
      go : (Bytes → After) → Grown → After
      go more Growing = record { opened = Some here; out = []; counts = c }
      go more Oversize = record { opened = None; out = []; counts = record c { oversize = up c.oversize } }
      go more (Whole n) = with_out (take n here ∷ []) (more (drop n here))

-- Bytes after those of the open section. Those beyond its end are passed over. Where the section closes
-- and still isn't whole, it is dropped and counted.
abbrev pub after_append : Bool → Bytes → Counts → After
after_append closes bytes c = go (as_grown bytes) where
  go : Grown → After
  go Growing = if closes then record { opened = None; out = []; counts = record c { cut = up c.cut } } else record { opened = Some bytes; out = []; counts = c }
  go Oversize = record { opened = None; out = []; counts = record c { oversize = up c.oversize } }
  go (Whole n) = record { opened = None; out = take n bytes ∷ []; counts = c }

-- a packet that begins no section: its payload goes on with the open one
abbrev pub goes_on : Option Bytes → Bytes → Counts → After
goes_on None payload c = record { opened = None; out = []; counts = record c { orphans = up c.orphans } }
goes_on (Some bytes) payload c = after_append false (bytes ++ payload) c

-- the bytes of a start packet before its first section: they are the open section's last
abbrev pub closes : Option Bytes → Bytes → Counts → After
closes None part c = record { opened = None; out = []; counts = c }
closes (Some bytes) part c = after_append true (bytes ++ part) c

-- a packet that begins a section: its first byte says how many bytes stand before that section
abbrev pub starts : Option Bytes → Bytes → Counts → After
starts opened payload c =
    let p = slice_index payload 0 in
    if nat_lt p (length payload)
    then (let first = closes opened (take p (drop 1 payload)) c in with_out first.out (open_on PACKET_LENGTH (drop (1 + p) payload) first.counts))
    else record { opened = None; out = []; counts = record c { bad_pointer = up c.bad_pointer } }

-- the packet repeats the last one
abbrev pub is_last : ℕ → Bytes → Option (ℕ × Bytes) → Bool
is_last counter payload None = false
is_last counter payload (Some l) = (l.0 == counter) && bytes_eq l.1 payload

-- packets between the last one and this one are missing
abbrev pub jumps_from : ℕ → Option (ℕ × Bytes) → Bool
jumps_from counter None = false
jumps_from counter (Some l) = not (counter == (l.0 + 1) % 16)

-- what is kept of a packet, and what its payload left
abbrev pub keeps : Receiving → Fields → After → Receiving × List Bytes
keeps s p a = (record { pid = s.pid; last = Some (p.counter, p.payload); opened = a.opened; counts = a.counts }, a.out)

-- a packet that is no duplicate: where packets before it are missing, the open section is dropped
abbrev pub takes : Receiving → Fields → Receiving × List Bytes
takes s p =
    let jumped = jumps_from p.counter s.last in
    let opened = if jumped then None else s.opened in
    let c = if jumped then record s.counts { jumps = up s.counts.jumps } else s.counts in
    keeps s p (if p.start then starts opened p.payload c else goes_on opened p.payload c)

-- nothing but a count changes
abbrev pub with_counts : Receiving → Counts → Receiving × List Bytes
with_counts s c = (record s { counts = c }, [])

-- one packet: a fault, another PID, no payload and a duplicate are counted, in this order, and leave the rest
abbrev pub after_packet : Receiving → Result Fields PacketFault → Receiving × List Bytes
after_packet s (Err fault) = with_counts s (count_fault fault s.counts)
after_packet s (Ok p) =
    if not (p.pid == s.pid) then with_counts s (record s.counts { other_pid = up s.counts.other_pid })
    else (if length p.payload == 0 then with_counts s (record s.counts { no_payload = up s.counts.no_payload })
    else (if is_last p.counter p.payload s.last then with_counts s (record s.counts { duplicates = up s.counts.duplicates })
    else takes s p))

-- no packet has come yet
abbrev pub at_start : ℕ → Receiving
at_start pid = record { pid = pid; last = None; opened = None; counts = nothing_counted }

abbrev pub one_more : Receiving → Receiving
one_more s = record s { counts = record s.counts { packets = up s.counts.packets } }

-- the state and the candidates after one packet
abbrev pub step : Receiving → Bytes → Receiving × List Bytes
step s packet = after_packet (one_more s) (parse_packet packet)

abbrev pub after_all : Receiving → List Bytes → Receiving
after_all s [] = s
after_all s (p ∷ ps) = after_all (step s p).0 ps

-- the state stands for this list of packets, part by part; last pieces that were too short are counted apart
pub record HasReceived (s : Receiving) (packets : List Bytes) : Type 0 where
  pub last : s.last ≡ (after_all (at_start s.pid) packets).last
  pub opened : s.opened ≡ (after_all (at_start s.pid) packets).opened
  pub counts : record s.counts { short_tail = 0 } ≡ (after_all (at_start s.pid) packets).counts

-- what a demultiplexer is: what it received, and the bytes that it keeps of an unfinished packet
pub record DemuxState : Type 0 where
  pub pid : ℕ
  pub last : Option (ℕ × Bytes)
  pub opened : Option Bytes
  pub counts : Counts
  pub unfinished : Bytes

abbrev pub as_receiving : DemuxState → Receiving
as_receiving d = record { pid = d.pid; last = d.last; opened = d.opened; counts = d.counts }

-- nothing has come yet
abbrev pub fresh : ℕ → DemuxState
fresh pid = record { pid = pid; last = None; opened = None; counts = nothing_counted; unfinished = [] }

-- the value stands for this list of packets, and no bytes are kept after them
pub record StandsFor (d : DemuxState) (packets : List Bytes) : Type 0 where
  pub received : HasReceived (as_receiving d) packets
  pub whole : d.unfinished ≡ []
