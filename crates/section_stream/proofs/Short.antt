-- Whatever the count of short tails is, the rules give the same.
use Rattle.std.proofs.Common.{◌≡◌, ℕ, zero, suc, ◌+◌, Bool, true, false, ◌||◌, ◌==◌, nat_lt, List, [], ◌∷◌, ◌++◌, length, take, drop, slice_index, Option, Some, None, Result, Ok, Err, cond, refl, ◌∙◌, ap}
use Rattle.carousel_profile.specs.declared.TheConstants.{PACKET_LENGTH}
use Rattle.ts_packet.specs.Packets.{Fields, parse_packet}
use Rattle.ts_packet.specs.declared.PacketFault.{PacketFault}
use Rattle.ts_packet.specs.declared.PacketFault.TheVariants.{NoSync, Errored, Scrambled, Reserved, BadField}
use Rattle.section_stream.specs.Cuts.{Bytes}
use Rattle.section_stream.specs.declared.counts.Counts.{Counts}
use Rattle.section_stream.specs.Rules.{Receiving, After, Grown, Growing, Oversize, Whole, as_grown, with_out, open_on, after_append, goes_on, closes, starts, keeps, takes, after_packet, count_fault, step, one_more, is_last, jumps_from, up}

abbrev short : ℕ → Counts → Counts
short k c = record c { short_tail = k }

abbrev after_short : ℕ → After → After
after_short k a = record a { counts = short k a.counts }

abbrev pub state_short : ℕ → Receiving → Receiving
state_short k s = record s { counts = short k s.counts }

by_grown : (k n : ℕ) (here : Bytes) (c : Counts) (g : Grown) → as_grown here ≡ g
    → ((rest : Bytes) → open_on n rest (short k c) ≡ after_short k (open_on n rest c))
    → (t : Bool) → ((length here == 0) || (slice_index here 0 == 0xFF)) ≡ t
    → open_on (suc n) here (short k c) ≡ after_short k (open_on (suc n) here c)
by_grown k n here c g e next true f = rw f refl
by_grown k n here c Growing e next false f = rw (f, e) refl
by_grown k n here c Oversize e next false f = rw (f, e) refl
by_grown k n here c (Whole m) e next false f = rw (f, e) (ap (with_out (take m here ∷ [])) (next (drop m here)))

open_short : (k n : ℕ) (here : Bytes) (c : Counts) → open_on n here (short k c) ≡ after_short k (open_on n here c)
open_short k zero here c = refl
open_short k (suc n) here c = by_grown k n here c (as_grown here) refl (λ rest. open_short k n rest c) ((length here == 0) || (slice_index here 0 == 0xFF)) refl

appended_by : (k : ℕ) (b : Bool) (bytes : Bytes) (c : Counts) (g : Grown) → as_grown bytes ≡ g → after_append b bytes (short k c) ≡ after_short k (after_append b bytes c)
appended_by k true bytes c Growing e = rw e refl
appended_by k false bytes c Growing e = rw e refl
appended_by k b bytes c Oversize e = rw e refl
appended_by k b bytes c (Whole m) e = rw e refl

goes_on_short : (k : ℕ) (o : Option Bytes) (payload : Bytes) (c : Counts) → goes_on o payload (short k c) ≡ after_short k (goes_on o payload c)
goes_on_short k None payload c = refl
goes_on_short k (Some b) payload c = appended_by k false (b ++ payload) c (as_grown (b ++ payload)) refl

closes_short : (k : ℕ) (o : Option Bytes) (part : Bytes) (c : Counts) → closes o part (short k c) ≡ after_short k (closes o part c)
closes_short k None part c = refl
closes_short k (Some b) part c = appended_by k true (b ++ part) c (as_grown (b ++ part)) refl

abbrev behind : ℕ → Bytes → After → After
behind n rest first = with_out first.out (open_on n rest first.counts)

behind_short : (k n : ℕ) (rest : Bytes) (first : After) → behind n rest (after_short k first) ≡ after_short k (behind n rest first)
behind_short k n rest first = ap (with_out first.out) (open_short k n rest first.counts)

starts_by : (k : ℕ) (o : Option Bytes) (payload : Bytes) (c : Counts) (t : Bool) → nat_lt (slice_index payload 0) (length payload) ≡ t
    → starts o payload (short k c) ≡ after_short k (starts o payload c)
starts_by k o payload c true e =
    let p = slice_index payload 0 in
    rw e (ap (behind PACKET_LENGTH (drop (1 + p) payload)) (closes_short k o (take p (drop 1 payload)) c) ∙ behind_short k PACKET_LENGTH (drop (1 + p) payload) (closes o (take p (drop 1 payload)) c))
starts_by k o payload c false e = rw e refl

starts_short : (k : ℕ) (o : Option Bytes) (payload : Bytes) (c : Counts) → starts o payload (short k c) ≡ after_short k (starts o payload c)
starts_short k o payload c = starts_by k o payload c (nat_lt (slice_index payload 0) (length payload)) refl

-- what a state and an output are, with another count of short tails
abbrev pub both_short : ℕ → Receiving × List Bytes → Receiving × List Bytes
both_short k x = (state_short k x.0, x.1)

acts_short : (k : ℕ) (start : Bool) (o : Option Bytes) (payload : Bytes) (c : Counts)
    → cond start (starts o payload (short k c)) (goes_on o payload (short k c)) ≡ after_short k (cond start (starts o payload c) (goes_on o payload c))
acts_short k true o payload c = starts_short k o payload c
acts_short k false o payload c = goes_on_short k o payload c

takes_by : (k : ℕ) (s : Receiving) (p : Fields) (t : Bool) → jumps_from p.counter s.last ≡ t → takes (state_short k s) p ≡ both_short k (takes s p)
takes_by k s p true e = rw e (ap (keeps s p) (acts_short k p.start None p.payload (record s.counts { jumps = up s.counts.jumps })))
takes_by k s p false e = rw e (ap (keeps s p) (acts_short k p.start s.opened p.payload s.counts))

fault_short : (k : ℕ) (fault : PacketFault) (c : Counts) → count_fault fault (short k c) ≡ short k (count_fault fault c)
fault_short k NoSync c = refl
fault_short k Errored c = refl
fault_short k Scrambled c = refl
fault_short k Reserved c = refl
fault_short k BadField c = refl

fed_by : (k : ℕ) (s : Receiving) (p : Fields) (a b d : Bool) → (p.pid == s.pid) ≡ a → (length p.payload == 0) ≡ b → is_last p.counter p.payload s.last ≡ d
    → after_packet (state_short k s) (Ok p) ≡ both_short k (after_packet s (Ok p))
fed_by k s p false b d e f h = rw e refl
fed_by k s p true true d e f h = rw (e, f) refl
fed_by k s p true false true e f h = rw (e, f, h) refl
fed_by k s p true false false e f h = rw (e, f, h) (takes_by k s p (jumps_from p.counter s.last) refl)

fed_short : (k : ℕ) (s : Receiving) (r : Result Fields PacketFault) → after_packet (state_short k s) r ≡ both_short k (after_packet s r)
fed_short k s (Err fault) = ap (λ c. (record s { counts = c }, [])) (fault_short k fault s.counts)
fed_short k s (Ok p) = fed_by k s p (p.pid == s.pid) (length p.payload == 0) (is_last p.counter p.payload s.last) refl refl refl

-- one packet: another count of short tails is kept, and all else is the same
pub step_short : (k : ℕ) (s : Receiving) (x : Bytes) → step (state_short k s) x ≡ both_short k (step s x)
step_short k s x = fed_short k (one_more s) (parse_packet x)
