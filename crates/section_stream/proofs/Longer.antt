-- A packet that only makes the open section longer.
use Rattle.std.proofs.Common.{◌≡◌, ℕ, ◌+◌, ◌*◌, ◌%◌, ◌==◌, ◌<◌, ◌≤◌, nat_lt, nat_le, Bool, true, false, List, [], ◌++◌, Option, Some, None, drop, length, slice_index, refl, sym, ◌∙◌, ap, arith, append-nil, length-append}
use Rattle.std.specs.Prelude.{Ok, ◌≢◌}
use Rattle.std.proofs.lemmas.List.{get_or_append_left}
use Rattle.oc_bytes.specs.Numbers.{section_length}
use Rattle.oc_bytes.specs.declared.lengths.TheConstants.{MOST_LENGTH}
use Rattle.carousel_profile.specs.declared.TheConstants.{PACKET_LENGTH}
use Rattle.ts_packet.specs.Packets.{Fields, parse_packet}
use Rattle.section_stream.specs.Cuts.{Bytes}
use Rattle.section_stream.specs.Inner.Kept.{last_from}
use Rattle.section_stream.specs.Rules.{Receiving, Growing, as_grown, is_last, jumps_from, one_more, step, takes, with_counts}
use Rattle.section_stream.specs.Inner.Steps.{Gives, HasDone, LacksMore, bytes_of, count_aside, done_by, with_packet}
use Rattle.section_stream.specs.declared.counts.Aside.TheVariants.{OtherPid}
use Rattle.section_stream.specs.declared.counts.Counts.{Counts}
use Rattle.section_stream.proofs.Handing.{goes_growing}
use Rattle.section_stream.proofs.Taking.{takes_done}

-- the length field of a section stays as it was
same_length : (bytes more : Bytes) → 3 ≤ length bytes → section_length (bytes ++ more) ≡ section_length bytes
same_length bytes more h =
    ap (λ x. x % 16 * 256 + slice_index (bytes ++ more) 2) (get_or_append_left bytes more 0 1 (omega (arith, h)))
    ∙ ap (λ x. slice_index bytes 1 % 16 * 256 + x) (get_or_append_left bytes more 0 2 (omega (arith, h)))

still_growing : (bytes more : Bytes) → 3 ≤ length bytes → section_length bytes ≤ MOST_LENGTH → length bytes + length more < 3 + section_length bytes → as_grown (bytes ++ more) ≡ Growing
still_growing bytes more known fits lacks =
    let n = section_length (bytes ++ more) in
    let same = same_length bytes more known in
    let size = length-append bytes more in
    let short : nat_lt (length (bytes ++ more)) 3 ≡ false = grind (arith, size, known) in
    let most : nat_lt MOST_LENGTH n ≡ false = grind (arith, same, fits) in
    let whole : nat_le (3 + n) (length (bytes ++ more)) ≡ false = grind (arith, same, size, lacks) in
    rw (short, most, whole) refl

pub grows_on : (o : Option Bytes) (more : Bytes) → LacksMore o (length more) → (o ≡ Some (bytes_of o)) × (as_grown (bytes_of o ++ more) ≡ Growing)
grows_on None more l = let none : false ≡ true = l.is_open in cc
grows_on (Some bytes) more l = (refl, still_growing bytes more l.known l.fits l.lacks)

-- the counter after the last packet's: neither the last packet once more nor a jump
follows : (counter place old : ℕ) (payload bytes : Bytes) → counter ≡ (old + 1) % 16
    → (is_last counter payload (last_from place old bytes) ≡ false) × (jumps_from counter (last_from place old bytes) ≡ false)
follows counter place old payload bytes e = go (nat_lt place PACKET_LENGTH) refl where
  Claim : Option (ℕ × Bytes) → Type 0
  Claim o = (is_last counter payload o ≡ false) × (jumps_from counter o ≡ false)

  other : (old == counter) ≡ false
  other = grind (arith, e)

  next : (counter == (old + 1) % 16) ≡ true
  next = grind (arith, e)

  kept : Claim (Some (old, drop place bytes))
  kept = (rw other refl, rw next refl)

  go : (t : Bool) → nat_lt place PACKET_LENGTH ≡ t → Claim (last_from place old bytes)
  go true f = rw f kept
  go false f = rw f (refl, refl)

-- a packet of the PID with the next counter is taken
pub next_taken : (s : Receiving) (packet : Bytes) (p : Fields) (place old : ℕ) (bytes : Bytes) → parse_packet packet ≡ Ok p → p.pid ≡ s.pid → 0 < length p.payload
    → s.last ≡ last_from place old bytes → p.counter ≡ (old + 1) % 16 → (step s packet ≡ takes (one_more s) p) × (jumps_from p.counter s.last ≡ false)
next_taken s packet p place old bytes is pid some last next =
    let f = follows p.counter place old p.payload bytes next in
    let again : is_last p.counter p.payload s.last ≡ false = ap (is_last p.counter p.payload) last ∙ f.0 in
    let ours : (p.pid == s.pid) ≡ true = grind (arith, pid) in
    let full : (length p.payload == 0) ≡ false = grind (arith, some) in
    (rw (is, ours, full, again) refl, ap (jumps_from p.counter) last ∙ f.1)

pub longer_done : (s t : Receiving) (packet : Bytes) (p : Fields) (place old : ℕ) (bytes : Bytes) (last : Option (ℕ × Bytes)) (now : Option Bytes) (counts : Counts)
    → s ≡ t → parse_packet packet ≡ Ok p → p.pid ≡ t.pid → 0 < length p.payload → t.last ≡ last_from place old bytes → p.counter ≡ (old + 1) % 16
    → p.start ≡ false → LacksMore s.opened (length p.payload)
    → last ≡ Some (p.counter, p.payload) → now ≡ Some (bytes_of s.opened ++ p.payload) → counts ≡ with_packet false s.counts
    → step t packet ≡ (record { pid = s.pid; last = last; opened = now; counts = counts }, [])
longer_done s t packet p place old bytes last now counts same is pid some kept next start lacks l n c =
    let taken = next_taken t packet p place old bytes is pid some kept next in
    let g = grows_on s.opened p.payload lacks in
    let goes = goes_growing s.opened (bytes_of s.opened) p.payload counts now [] g.0 g.1 n in
    let done : HasDone (done_by p.start s.opened p.payload counts) now [] [] counts = rw start goes in
    let gives = takes_done s t p false last s.opened counts [] now now [] counts same taken.1 l refl c refl done in
    taken.0 ∙ (λ i. (gives.state i, sym gives.out i))

-- ---- a packet of another PID

other_step : (s : Receiving) (packet : Bytes) (p : Fields) → parse_packet packet ≡ Ok p → (p.pid == s.pid) ≡ false
    → step s packet ≡ with_counts (one_more s) (count_aside OtherPid (with_packet false s.counts))
other_step s packet p is other = rw (is, other) refl

pub other_gives : (s t : Receiving) (packet : Bytes) (p : Fields) (counts : Counts) (before : List Bytes) → s ≡ t → parse_packet packet ≡ Ok p → p.pid ≢ s.pid
    → counts ≡ count_aside OtherPid (with_packet false s.counts)
    → Gives (step t packet) (record { pid = s.pid; last = s.last; opened = s.opened; counts = counts }) before before
other_gives s t packet p counts before same is other c =
    let differs : (p.pid == s.pid) ≡ false = grind (arith, other) in
    let stepped : step t packet ≡ (record { pid = s.pid; last = s.last; opened = s.opened; counts = counts }, []) =
    ap (λ x. step x packet) (sym same) ∙ other_step s packet p is differs ∙ ap (with_counts (one_more s)) (sym c) in
    record { state = ap (λ y. y.0) stepped; out = sym (append-nil before) ∙ ap (λ y. before ++ y.1) (sym stepped) }
