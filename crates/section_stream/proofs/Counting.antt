-- Each count is a number over all packets.
use Rattle.std.proofs.Common.{◌≡◌, ℕ, zero, suc, ◌+◌, Bool, true, false, not, ◌&&◌, ◌||◌, ◌==◌, nat_lt, List, [], ◌∷◌, ◌++◌, length, take, drop, slice_index, Option, Some, None, Result, Ok, Err, if◌then◌else◌, refl, sym, ◌∙◌, ap, subst, arith, append_assoc, append-nil, length-append}
use Rattle.std.specs.Str.{bytes_eq}
use Rattle.std.proofs.lemmas.Slice.Eq.{bytes_eq-Decides}
use Rattle.carousel_profile.specs.declared.TheConstants.{PACKET_LENGTH}
use Rattle.oc_bytes.specs.Outcome.{cap_at_u64}
use Rattle.ts_packet.specs.Packets.{Fields, parse_packet}
use Rattle.ts_packet.specs.declared.PacketFault.{PacketFault}
use Rattle.ts_packet.specs.declared.PacketFault.TheVariants.{NoSync, Errored, Scrambled, Reserved, BadField}
use Rattle.section_stream.specs.Cuts.{Bytes}
use Rattle.section_stream.specs.declared.counts.Counts.{Counts}
use Rattle.section_stream.specs.Rules.{HasReceived, as_receiving, Receiving, Grown, Growing, Oversize, Whole, as_grown, open_on, after_append, goes_on, closes, starts, after_packet, step, one_more, is_last, jumps_from, up, at_start, after_all}
use Rattle.section_stream.specs.Pieces.{packets_of}
use Rattle.section_stream.specs.Steps.{kept_unless}
use Rattle.section_stream.specs.Inner.Steps.{done_by}
use Rattle.section_stream.specs.Counting.{has_fault, holds_of, has_payload, number_from, number_of, fault_at, other_pid_at, no_payload_at, payload_in, or_else, last_payload, duplicate_at, jump_at, orphan_at, bad_pointer_at, cut_at, open_oversize_at, begun_oversize_at, nothing_open, pointer_is_within, part_before, open_grown, is_growing, is_oversize, last_is_oversize, counts_over, CountsAreNumbers}
use Rattle.section_stream.proofs.Outputs.{fed_by, pid_fed}

-- one more where this holds
abbrev raised : Bool → ℕ → ℕ
raised b n = if b then up n else n

-- ---- what a payload raises

abbrev opened_counts : ℕ → Bytes → Counts → Counts
opened_counts steps here c = record c { oversize = raised (last_is_oversize steps here) c.oversize }

open_by : (n : ℕ) (here : Bytes) (c : Counts) (g : Grown) → as_grown here ≡ g
    → ((rest : Bytes) → (open_on n rest c).counts ≡ opened_counts n rest c)
    → (t : Bool) → ((length here == 0) || (slice_index here 0 == 0xFF)) ≡ t
    → (open_on (suc n) here c).counts ≡ opened_counts (suc n) here c
open_by n here c g e next true f = rw f refl
open_by n here c Growing e next false f = rw (f, e) refl
open_by n here c Oversize e next false f = rw (f, e) refl
open_by n here c (Whole m) e next false f = rw (f, e) (next (drop m here))

open_counts : (steps : ℕ) (here : Bytes) (c : Counts) → (open_on steps here c).counts ≡ opened_counts steps here c
open_counts zero here c = refl
open_counts (suc n) here c = open_by n here c (as_grown here) refl (λ rest. open_counts n rest c) ((length here == 0) || (slice_index here 0 == 0xFF)) refl

abbrev appended_counts : Bool → Option Grown → Counts → Counts
appended_counts closing g c = record c { cut = raised (closing && is_growing g) c.cut; oversize = raised (is_oversize g) c.oversize }

append_counts : (b : Bool) (bytes : Bytes) (c : Counts) (g : Grown) → as_grown bytes ≡ g → (after_append b bytes c).counts ≡ appended_counts b (Some (as_grown bytes)) c
append_counts true bytes c Growing e = rw e refl
append_counts false bytes c Growing e = rw e refl
append_counts true bytes c Oversize e = rw e refl
append_counts false bytes c Oversize e = rw e refl
append_counts true bytes c (Whole m) e = rw e refl
append_counts false bytes c (Whole m) e = rw e refl

goes_counts : (o : Option Bytes) (payload : Bytes) (c : Counts)
    → (goes_on o payload c).counts ≡ record c { orphans = raised (nothing_open o) c.orphans; oversize = raised (is_oversize (open_grown o payload)) c.oversize }
goes_counts None payload c = refl
goes_counts (Some b) payload c = append_counts false (b ++ payload) c (as_grown (b ++ payload)) refl

closes_counts : (o : Option Bytes) (part : Bytes) (c : Counts) → (closes o part c).counts ≡ appended_counts true (open_grown o part) c
closes_counts None part c = refl
closes_counts (Some b) part c = append_counts true (b ++ part) c (as_grown (b ++ part)) refl

-- what the payload of a packet raises
abbrev acted : Bool → Option Bytes → Bytes → Counts → Counts
acted start o payload c =
    let g = open_grown o (part_before start payload) in
    let within = pointer_is_within payload in
    record c {
      orphans = raised (not start && nothing_open o) c.orphans;
      bad_pointer = raised (start && not within) c.bad_pointer;
      cut = raised (start && within && is_growing g) c.cut;
      oversize = raised (start && within && last_is_oversize PACKET_LENGTH (drop (1 + slice_index payload 0) payload)) (raised ((not start || within) && is_oversize g) c.oversize);
    }

starts_counts : (o : Option Bytes) (payload : Bytes) (c : Counts) (t : Bool) → nat_lt (slice_index payload 0) (length payload) ≡ t → (starts o payload c).counts ≡ acted true o payload c
starts_counts o payload c true e =
    let p = slice_index payload 0 in
    rw e (open_counts PACKET_LENGTH (drop (1 + p) payload) (closes o (take p (drop 1 payload)) c).counts ∙ ap (opened_counts PACKET_LENGTH (drop (1 + p) payload)) (closes_counts o (take p (drop 1 payload)) c))
starts_counts o payload c false e = rw e refl

done_counts : (start : Bool) (o : Option Bytes) (payload : Bytes) (c : Counts) → (done_by start o payload c).counts ≡ acted start o payload c
done_counts true o payload c = starts_counts o payload c (nat_lt (slice_index payload 0) (length payload)) refl
done_counts false o payload c = goes_counts o payload c

-- ---- what a packet raises

-- what a parsed packet raises, by the outcomes of the tests on it: the PID, no payload, a repeat, a jump
abbrev raised_by : Fields → Option Bytes → Bool → Bool → Bool → Bool → Counts → Counts
raised_by p opened a b d j c =
    let t = (a && not b) && not d in
    let o = kept_unless j opened in
    let g = open_grown o (part_before p.start p.payload) in
    let within = pointer_is_within p.payload in
    record {
      packets = up c.packets;
      no_sync = c.no_sync;
      errored = c.errored;
      scrambled = c.scrambled;
      reserved = c.reserved;
      bad_field = c.bad_field;
      other_pid = raised (not a) c.other_pid;
      no_payload = raised (a && b) c.no_payload;
      duplicates = raised ((a && not b) && d) c.duplicates;
      jumps = raised (t && j) c.jumps;
      orphans = raised (t && (not p.start && nothing_open o)) c.orphans;
      bad_pointer = raised (t && (p.start && not within)) c.bad_pointer;
      cut = raised (t && (p.start && within && is_growing g)) c.cut;
      oversize = raised (t && (p.start && within && last_is_oversize PACKET_LENGTH (drop (1 + slice_index p.payload 0) p.payload))) (raised (t && ((not p.start || within) && is_oversize g)) c.oversize);
      short_tail = c.short_tail;
    }

counts_by : (s : Receiving) (p : Fields) (a b d j : Bool) → (fed_by (one_more s) p a b d j).0.counts ≡ raised_by p s.opened a b d j s.counts
counts_by s p false b d j = refl
counts_by s p true true d j = refl
counts_by s p true false true j = refl
counts_by s p true false false true = done_counts p.start None p.payload (record (one_more s).counts { jumps = up s.counts.jumps })
counts_by s p true false false false = done_counts p.start s.opened p.payload (one_more s).counts

-- what a packet raises, by the last payload and the open section
abbrev raised_in : ℕ → Option (ℕ × Bytes) → Option Bytes → Result Fields PacketFault → Counts → Counts
raised_in pid last opened r c =
    let taken = λ (p : Fields). has_payload pid p && not (is_last p.counter p.payload last) in
    let open_at = λ (p : Fields). kept_unless (jumps_from p.counter last) opened in
    let grown = λ (p : Fields). open_grown (open_at p) (part_before p.start p.payload) in
    record {
      packets = up c.packets;
      no_sync = raised (has_fault NoSync r) c.no_sync;
      errored = raised (has_fault Errored r) c.errored;
      scrambled = raised (has_fault Scrambled r) c.scrambled;
      reserved = raised (has_fault Reserved r) c.reserved;
      bad_field = raised (has_fault BadField r) c.bad_field;
      other_pid = raised (holds_of (λ p. not (p.pid == pid)) r) c.other_pid;
      no_payload = raised (holds_of (λ p. (p.pid == pid) && (length p.payload == 0)) r) c.no_payload;
      duplicates = raised (holds_of (λ p. has_payload pid p && is_last p.counter p.payload last) r) c.duplicates;
      jumps = raised (holds_of (λ p. taken p && jumps_from p.counter last) r) c.jumps;
      orphans = raised (holds_of (λ p. taken p && (not p.start && nothing_open (open_at p))) r) c.orphans;
      bad_pointer = raised (holds_of (λ p. taken p && (p.start && not (pointer_is_within p.payload))) r) c.bad_pointer;
      cut = raised (holds_of (λ p. taken p && (p.start && pointer_is_within p.payload && is_growing (grown p))) r) c.cut;
      oversize =
          raised (holds_of (λ p. taken p && (p.start && pointer_is_within p.payload && last_is_oversize PACKET_LENGTH (drop (1 + slice_index p.payload 0) p.payload))) r)
          (raised (holds_of (λ p. taken p && ((not p.start || pointer_is_within p.payload) && is_oversize (grown p))) r) c.oversize);
      short_tail = c.short_tail;
    }

parsed_counts : (s : Receiving) (r : Result Fields PacketFault) → (after_packet (one_more s) r).0.counts ≡ raised_in s.pid s.last s.opened r s.counts
parsed_counts s (Err NoSync) = refl
parsed_counts s (Err Errored) = refl
parsed_counts s (Err Scrambled) = refl
parsed_counts s (Err Reserved) = refl
parsed_counts s (Err BadField) = refl
parsed_counts s (Ok p) = counts_by s p (p.pid == s.pid) (length p.payload == 0) (is_last p.counter p.payload s.last) (jumps_from p.counter s.last)

-- ---- the last payload

last_more : (pid : ℕ) (xs : List Bytes) (x : Bytes) → last_payload pid (xs ++ x ∷ []) ≡ or_else (payload_in pid x) (last_payload pid xs)
last_more pid [] x = nothing_else (payload_in pid x) where
  nothing_else : (o : Option (ℕ × Bytes)) → or_else None o ≡ or_else o None
  nothing_else None = refl
  nothing_else (Some y) = refl
last_more pid (y ∷ ys) x = ap (λ o. or_else o (payload_in pid y)) (last_more pid ys x) ∙ in_order (payload_in pid x) (last_payload pid ys) (payload_in pid y) where
  in_order : (a b c : Option (ℕ × Bytes)) → or_else (or_else a b) c ≡ or_else a (or_else b c)
  in_order None b c = refl
  in_order (Some z) b c = refl

repeats : (l : Option (ℕ × Bytes)) (p : Fields) → is_last p.counter p.payload l ≡ true → l ≡ Some (p.counter, p.payload)
repeats None p e = cc
repeats (Some l) p e =
    let same = both (l.0 == p.counter) (bytes_eq l.1 p.payload) e in
    let counters : l.0 ≡ p.counter = grind (arith, same.0) in
    let payloads : l.1 ≡ p.payload = (bytes_eq-Decides l.1 p.payload).0 same.1 in
    λ i. Some (counters i, payloads i)
  where
    both : (a b : Bool) → (a && b) ≡ true → (a ≡ true) × (b ≡ true)
    both true b e = (refl, e)
    both false b e = cc

parsed_last : (pid : ℕ) (x : Bytes) (s : Receiving) (p : Fields) → s.pid ≡ pid → parse_packet x ≡ Ok p
    → (a b d : Bool) → (p.pid == pid) ≡ a → (length p.payload == 0) ≡ b → is_last p.counter p.payload s.last ≡ d
    → (after_packet (one_more s) (Ok p)).0.last ≡ or_else (payload_in pid x) s.last
parsed_last pid x s p h e false b d ea eb ed = rw (e, h, ea) refl
parsed_last pid x s p h e true true d ea eb ed = rw (e, h, ea, eb) refl
parsed_last pid x s p h e true false true ea eb ed = rw (e, h, ea, eb, ed) (repeats s.last p ed)
parsed_last pid x s p h e true false false ea eb ed = rw (e, h, ea, eb, ed) refl

step_last : (pid : ℕ) (x : Bytes) (s : Receiving) → s.pid ≡ pid → (step s x).0.last ≡ or_else (payload_in pid x) s.last
step_last pid x s h = go (parse_packet x) refl where
  go : (r : Result Fields PacketFault) → parse_packet x ≡ r → (step s x).0.last ≡ or_else (payload_in pid x) s.last
  go (Err f) e = rw e refl
  go (Ok p) e = ap (λ r. (after_packet (one_more s) r).0.last) e ∙ parsed_last pid x s p h e (p.pid == pid) (length p.payload == 0) (is_last p.counter p.payload s.last) refl refl refl

-- ---- over all packets

-- one where this holds
abbrev one_if : Bool → ℕ
one_if b = if b then 1 else 0

number_more : (happens : List Bytes → Bytes → Bool) (before xs : List Bytes) (x : Bytes)
    → number_from happens before (xs ++ x ∷ []) ≡ number_from happens before xs + one_if (happens (before ++ xs) x)
number_more happens before [] x = nothing_beside (one_if (happens before x)) ∙ ap (λ b. 0 + one_if (happens b x)) (sym (append-nil before)) where
  nothing_beside : (n : ℕ) → n + 0 ≡ 0 + n
  nothing_beside n = omega arith
number_more happens before (y ∷ ys) x =
    ap (λ n. one_if (happens before y) + n) (number_more happens (before ++ y ∷ []) ys x)
    ∙ grouped (one_if (happens before y)) (number_from happens (before ++ y ∷ []) ys) (one_if (happens ((before ++ y ∷ []) ++ ys) x))
    ∙ ap (λ b. (one_if (happens before y) + number_from happens (before ++ y ∷ []) ys) + one_if (happens b x)) (append_assoc before (y ∷ []) ys)
  where
    grouped : (a b c : ℕ) → a + (b + c) ≡ (a + b) + c
    grouped a b c = omega arith

capped : (b : Bool) (n m : ℕ) → m ≡ n + one_if b → cap_at_u64 m ≡ raised b (cap_at_u64 n)
capped true n m e = omega (arith, e)
capped false n m e = omega (arith, e)

number_capped : (happens : List Bytes → Bytes → Bool) (xs : List Bytes) (x : Bytes) → cap_at_u64 (number_of happens (xs ++ x ∷ [])) ≡ raised (happens xs x) (cap_at_u64 (number_of happens xs))
number_capped happens xs x = capped (happens xs x) (number_of happens xs) (number_of happens (xs ++ x ∷ [])) (number_more happens [] xs x)

-- a count of two things, of which each may happen at a packet
both_capped : (a b : List Bytes → Bytes → Bool) (xs : List Bytes) (x : Bytes)
    → cap_at_u64 (number_of a (xs ++ x ∷ []) + number_of b (xs ++ x ∷ [])) ≡ raised (b xs x) (raised (a xs x) (cap_at_u64 (number_of a xs + number_of b xs)))
both_capped a b xs x =
    capped_by (a xs x) (b xs x) (number_of a xs) (number_of b xs) (number_of a (xs ++ x ∷ [])) (number_of b (xs ++ x ∷ [])) (number_more a [] xs x) (number_more b [] xs x)
  where
    capped_by : (s t : Bool) (n m n′ m′ : ℕ) → n′ ≡ n + one_if s → m′ ≡ m + one_if t → cap_at_u64 (n′ + m′) ≡ raised t (raised s (cap_at_u64 (n + m)))
    capped_by true true n m n′ m′ e f = omega (arith, e, f)
    capped_by true false n m n′ m′ e f = omega (arith, e, f)
    capped_by false true n m n′ m′ e f = omega (arith, e, f)
    capped_by false false n m n′ m′ e f = omega (arith, e, f)

length_capped : (xs : List Bytes) (x : Bytes) → cap_at_u64 (length (xs ++ x ∷ [])) ≡ up (cap_at_u64 (length xs))
length_capped xs x = capped true (length xs) (length (xs ++ x ∷ [])) (length-append xs (x ∷ []))

-- what the packets so far left open
abbrev open_after_all : ℕ → List Bytes → Option Bytes
open_after_all pid packets = (after_all (at_start pid) packets).opened

counts_more : (pid : ℕ) (xs : List Bytes) (x : Bytes)
    → counts_over pid (xs ++ x ∷ []) ≡ raised_in pid (last_payload pid xs) (open_after_all pid xs) (parse_packet x) (counts_over pid xs)
counts_more pid xs x = λ i. record {
  packets = length_capped xs x i;
  no_sync = number_capped (fault_at NoSync) xs x i;
  errored = number_capped (fault_at Errored) xs x i;
  scrambled = number_capped (fault_at Scrambled) xs x i;
  reserved = number_capped (fault_at Reserved) xs x i;
  bad_field = number_capped (fault_at BadField) xs x i;
  other_pid = number_capped (other_pid_at pid) xs x i;
  no_payload = number_capped (no_payload_at pid) xs x i;
  duplicates = number_capped (duplicate_at pid) xs x i;
  jumps = number_capped (jump_at pid) xs x i;
  orphans = number_capped (orphan_at pid) xs x i;
  bad_pointer = number_capped (bad_pointer_at pid) xs x i;
  cut = number_capped (cut_at pid) xs x i;
  oversize = both_capped (open_oversize_at pid) (begun_oversize_at pid) xs x i;
  short_tail = 0;
}

-- the state has the last payload and the counts of these packets
record Follows (pid : ℕ) (packets : List Bytes) (s : Receiving) : Type 0 where
  pub pid_is : s.pid ≡ pid
  pub last_is : s.last ≡ last_payload pid packets
  pub counts_are : s.counts ≡ counts_over pid packets

abbrev AllFollow : ℕ → List Bytes → Type 0
AllFollow pid packets = Follows pid packets (after_all (at_start pid) packets)

after_more : (s : Receiving) (xs : List Bytes) (x : Bytes) → after_all s (xs ++ x ∷ []) ≡ (step (after_all s xs) x).0
after_more s [] x = refl
after_more s (y ∷ ys) x = after_more (step s y).0 ys x

one_follows : (pid : ℕ) (xs : List Bytes) (x : Bytes) → AllFollow pid xs → AllFollow pid (xs ++ x ∷ [])
one_follows pid xs x h = subst (λ s. Follows pid (xs ++ x ∷ []) s) (sym (after_more (at_start pid) xs x)) (record {
  pid_is = pid_fed (one_more s) (parse_packet x) ∙ h.pid_is;
  last_is = step_last pid x s h.pid_is ∙ ap (or_else (payload_in pid x)) h.last_is ∙ sym (last_more pid xs x);
  counts_are =
      parsed_counts s (parse_packet x)
      ∙ (λ i. raised_in (h.pid_is i) (h.last_is i) (open_after_all pid xs) (parse_packet x) (h.counts_are i))
      ∙ sym (counts_more pid xs x);
}) where
  s : Receiving
  s = after_all (at_start pid) xs

all_follow : (pid : ℕ) (before xs : List Bytes) → AllFollow pid before → AllFollow pid (before ++ xs)
all_follow pid before [] h = subst (AllFollow pid) (sym (append-nil before)) h
all_follow pid before (x ∷ xs) h = subst (AllFollow pid) (append_assoc before (x ∷ []) xs) (all_follow pid (before ++ x ∷ []) xs (one_follows pid before x h))

received_numbers : (s : Receiving) (packets : List Bytes) → HasReceived s packets → record s.counts { short_tail = 0 } ≡ counts_over s.pid packets
received_numbers s packets h = h.counts ∙ (all_follow s.pid [] packets (record { pid_is = refl; last_is = refl; counts_are = refl })).counts_are

pub counts-are-numbers : CountsAreNumbers
counts-are-numbers = record {
  of_packets = λ d packets h. received_numbers (as_receiving d) packets h.received;
  of_bytes = λ d bytes h. received_numbers (as_receiving d) (packets_of bytes) h.received;
}
