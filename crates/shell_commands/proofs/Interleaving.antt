-- What a receiver of one PID makes of packets among which those of other PIDs stand: the same as of its own alone.
use Rattle.std.proofs.Common.{◌≡◌, ℕ, zero, suc, ◌+◌, ◌*◌, ◌/◌, ◌%◌, Bool, true, false, not, ◌&&◌, ◌||◌, ◌==◌, nat_le, nat_lt, List, [], ◌∷◌, ◌++◌, length, map, take, drop, slice_index, cond, Option, Some, None, Result, Ok, Err, if◌then◌else◌, refl, sym, ◌∙◌, ap, ap₂, subst}
use Rattle.std.specs.List.{filter_map, enumerate_from, cons_option}
use Rattle.std.proofs.lemmas.List.{map-append}
use Rattle.std.proofs.lemmas.List.Elements.{filter_map-append}
use Rattle.ts_packet.specs.Packets.{Fields, parse_packet, control, packet_bytes, bit_of}
use Rattle.carousel_profile.specs.declared.TheConstants.{PACKET_LENGTH}
use Rattle.ts_packet.specs.declared.PacketFault.{PacketFault}
use Rattle.ts_packet.specs.declared.PacketFault.TheVariants.{NoSync, Errored, Scrambled, Reserved, BadField}
use Rattle.std.specs.Str.{bytes_eq}
use Rattle.section_stream.specs.Cuts.{Bytes, Received, Cut, kept_of, payloads_in, without_repeats_of, without_repeats, pointer_of, pointer_fits, going_on, whole_len, opened_in, cuts_at, cuts_of, candidates}
use Rattle.section_stream.specs.Packing.{MuxState, end_packets, with_stuffing, last_of, number_packets, packets_of, past, put}
use Rattle.psi_tables.specs.Written.{AnnouncerState, pat_spelling, pmt_spelling, packets_of_table, announcer_packets}

-- ---- the numbers of packets don't matter to the bytes that are cut

abbrev bare : Received → Received
bare r = record { number = 0; start = r.start; counter = r.counter; payload = r.payload }

-- the packets of a PID, whatever their numbers
abbrev pub heard_of : ℕ → List Bytes → List Received
heard_of pid packets = filter_map (λ x. kept_of pid 0 (parse_packet x)) packets

abbrev as_received : ℕ → Fields → Received
as_received n f = record { number = n; start = f.start; counter = f.counter; payload = f.payload }

received_bare : (pid n : ℕ) (ps : List Bytes) → map bare (filter_map (λ x. kept_of pid x.0 (parse_packet x.1)) (enumerate_from n ps)) ≡ heard_of pid ps
received_bare pid n [] = refl
received_bare pid n (p ∷ ps) = by (parse_packet p) (received_bare pid (n + 1) ps) where
  rest : List Received
  rest = filter_map (λ x. kept_of pid x.0 (parse_packet x.1)) (enumerate_from (n + 1) ps)

  go : (f : Fields) → map bare rest ≡ heard_of pid ps → (t : Bool)
      → map bare (cons_option (if t then Some (as_received n f) else None) rest) ≡ cons_option (if t then Some (as_received 0 f) else None) (heard_of pid ps)
  go f h true = ap (λ (xs : List Received). as_received 0 f ∷ xs) h
  go f h false = h

  by : (r : Result Fields PacketFault) → map bare rest ≡ heard_of pid ps → map bare (cons_option (kept_of pid n r) rest) ≡ cons_option (kept_of pid 0 r) (heard_of pid ps)
  by (Ok f) h = go f h ((f.pid == pid) && not (length f.payload == 0))
  by (Err fault) h = h

repeats_bare : (a : Received) (bs : List Received) → without_repeats_of (bare a) (map bare bs) ≡ map bare (without_repeats_of a bs)
repeats_bare a [] = refl
repeats_bare a (b ∷ bs) = go ((a.counter == b.counter) && bytes_eq a.payload b.payload) (repeats_bare b bs) where
  go : (t : Bool) → without_repeats_of (bare b) (map bare bs) ≡ map bare (without_repeats_of b bs)
      → (if t then without_repeats_of (bare b) (map bare bs) else bare b ∷ without_repeats_of (bare b) (map bare bs)) ≡ map bare (if t then without_repeats_of b bs else b ∷ without_repeats_of b bs)
  go true h = h
  go false h = ap (λ (xs : List Received). bare b ∷ xs) h

all_bare : (rs : List Received) → without_repeats (map bare rs) ≡ map bare (without_repeats rs)
all_bare [] = refl
all_bare (a ∷ bs) = ap (λ (xs : List Received). bare a ∷ xs) (repeats_bare a bs)

going_bare : (c : ℕ) (qs : List Received) → going_on c qs ≡ going_on c (map bare qs)
going_bare c [] = refl
going_bare c (q ∷ qs) =
    ap (λ (rest : Bytes). if not (q.counter == (c + 1) % 16) then [] else (if q.start then (if pointer_fits q then take (pointer_of q) (drop 1 q.payload) else []) else q.payload ++ rest))
    (going_bare q.counter qs)

abbrev bytes_of : List Cut → List Bytes
bytes_of cs = map (λ c. c.bytes) cs

opened_any : (steps n m : ℕ) (here later : Bytes) → bytes_of (opened_in steps n here later) ≡ bytes_of (opened_in steps m here later)
opened_any zero n m here later = refl
opened_any (suc steps) n m here later = by ((length here == 0) || (slice_index here 0 == 0xFF)) (whole_len (here ++ later)) refl refl (λ k. opened_any steps n m (drop k here) later) where
  next : (k : ℕ) (t : Bool) → bytes_of (opened_in steps n (drop k here) later) ≡ bytes_of (opened_in steps m (drop k here) later)
      → bytes_of (cond t (opened_in steps n (drop k here) later) []) ≡ bytes_of (cond t (opened_in steps m (drop k here) later) [])
  next k true more = more
  next k false more = refl

  by : (t : Bool) (o : Option ℕ) → ((length here == 0) || (slice_index here 0 == 0xFF)) ≡ t → whole_len (here ++ later) ≡ o
      → ((k : ℕ) → bytes_of (opened_in steps n (drop k here) later) ≡ bytes_of (opened_in steps m (drop k here) later))
      → bytes_of (opened_in (suc steps) n here later) ≡ bytes_of (opened_in (suc steps) m here later)
  by true o t f more = rw t refl
  by false None t f more = rw (t, f) refl
  by false (Some k) t f more = rw (t, f) (ap (λ (xs : List Bytes). take k (here ++ later) ∷ xs) (next k (nat_le k (length here)) (more k)))

at_bare : (p : Received) (ps : List Received) → bytes_of (cuts_at p ps) ≡ bytes_of (cuts_at (bare p) (map bare ps))
at_bare p ps = go (p.start && pointer_fits p) where
  here : Bytes
  here = drop (1 + pointer_of p) p.payload

  go : (t : Bool) → bytes_of (cond t (opened_in PACKET_LENGTH p.number here (going_on p.counter ps)) []) ≡ bytes_of (cond t (opened_in PACKET_LENGTH 0 here (going_on p.counter (map bare ps))) [])
  go true = opened_any PACKET_LENGTH p.number 0 here (going_on p.counter ps) ∙ ap (λ (later : Bytes). bytes_of (opened_in PACKET_LENGTH 0 here later)) (going_bare p.counter ps)
  go false = refl

cuts_bare : (rs : List Received) → bytes_of (cuts_of rs) ≡ bytes_of (cuts_of (map bare rs))
cuts_bare [] = refl
cuts_bare (p ∷ ps) =
    map-append (λ (c : Cut). c.bytes) (cuts_at p ps) (cuts_of ps) ∙ ap₂ (λ (xs ys : List Bytes). xs ++ ys) (at_bare p ps) (cuts_bare ps)
    ∙ sym (map-append (λ (c : Cut). c.bytes) (cuts_at (bare p) (map bare ps)) (cuts_of (map bare ps)))

cut_of_heard : (pid : ℕ) (packets : List Bytes) → candidates pid packets ≡ bytes_of (cuts_of (without_repeats (heard_of pid packets)))
cut_of_heard pid packets =
    cuts_bare (without_repeats (payloads_in pid packets))
    ∙ ap (λ (rs : List Received). bytes_of (cuts_of rs)) (sym (all_bare (payloads_in pid packets)) ∙ ap without_repeats (received_bare pid 0 packets))

-- where the same packets of a PID are heard, the same is cut
pub heard_alone : (pid : ℕ) (xs ys : List Bytes) → heard_of pid xs ≡ heard_of pid ys → candidates pid xs ≡ candidates pid ys
heard_alone pid xs ys e = cut_of_heard pid xs ∙ ap (λ (rs : List Received). bytes_of (cuts_of (without_repeats rs))) e ∙ sym (cut_of_heard pid ys)

pub heard_both : (pid : ℕ) (xs ys : List Bytes) → heard_of pid (xs ++ ys) ≡ heard_of pid xs ++ heard_of pid ys
heard_both pid xs ys = filter_map-append (λ x. kept_of pid 0 (parse_packet x)) xs ys

-- ---- packets of other PIDs

other_pid : (pid : ℕ) (bytes : Bytes) → ((slice_index bytes 1 % 32 * 256 + slice_index bytes 2) == pid) ≡ false → kept_of pid 0 (parse_packet bytes) ≡ None
other_pid pid bytes e =
    go (not (slice_index bytes 0 == 0x47)) (slice_index bytes 1 / 128 == 1) (not (slice_index bytes 3 / 64 == 0)) (control bytes == 0) ((control bytes == 3) && nat_lt 182 (slice_index bytes 4)) where
      fields : Fields
      fields = record { pid = slice_index bytes 1 % 32 * 256 + slice_index bytes 2; start = slice_index bytes 1 / 64 % 2 == 1; counter = slice_index bytes 3 % 16; payload = if control bytes == 1 then drop 4 bytes else (if control bytes == 3 then drop (5 + slice_index bytes 4) bytes else []) }

      go : (a b c d f : Bool)
          → kept_of pid 0 (if a then Err NoSync else (if b then Err Errored else (if c then Err Scrambled else (if d then Err Reserved else (if f then Err BadField else Ok fields))))) ≡ None
      go true b c d f = refl
      go false true c d f = refl
      go false false true d f = refl
      go false false false true f = refl
      go false false false false true = refl
      go false false false false false = ap (λ (t : Bool). if t && not (length fields.payload == 0) then Some (as_received 0 fields) else None) e

-- the PID in a packet's bytes is another one
abbrev IsOther : ℕ → ℕ → Type 0
IsOther mine pid = (start : Bool) → (((64 * bit_of start + pid / 256) % 32 * 256 + pid % 256) == mine) ≡ false

numbered_others : (mine pid c : ℕ) (ps : List (Bool × Bytes)) → IsOther mine pid → heard_of mine (number_packets pid c ps) ≡ []
numbered_others mine pid c [] other = refl
numbered_others mine pid c (p ∷ ps) other =
    ap (λ (o : Option Received). cons_option o (heard_of mine (number_packets pid ((c + 1) % 16) ps))) (other_pid mine (packet_bytes pid p.0 c (with_stuffing p.1)) (other p.0))
    ∙ numbered_others mine pid ((c + 1) % 16) ps other

zero_is_other : IsOther 256 0
zero_is_other true = refl
zero_is_other false = refl

map_is_other : IsOther 256 32
map_is_other true = refl
map_is_other false = refl

table_others : (pid : ℕ) (m : MuxState) (table : Bytes) → m.pid ≡ pid → IsOther 256 pid → heard_of 256 (packets_of_table m table) ≡ []
table_others pid m table e other =
    let its : IsOther 256 m.pid = subst (IsOther 256) (sym e) other in
    let next : MuxState = past m table in
    heard_both 256 (packets_of m table) (last_of next)
    ∙ ap₂ (λ (xs ys : List Received). xs ++ ys) (numbered_others 256 m.pid m.counter (put m.tail m.body table).given its) (numbered_others 256 m.pid next.counter (end_packets next.tail next.body) its)

-- no packet of the tables has the carousel's PID
pub tables_are_others : (a : AnnouncerState) → a.tables.pid ≡ 0 → a.maps.pid ≡ 32 → heard_of 256 (announcer_packets a) ≡ []
tables_are_others a t m =
    heard_both 256 (packets_of_table a.tables pat_spelling) (packets_of_table a.maps (pmt_spelling a.carousel))
    ∙ ap₂ (λ (xs ys : List Received). xs ++ ys) (table_others 0 a.tables pat_spelling t zero_is_other) (table_others 32 a.maps (pmt_spelling a.carousel) m map_is_other)
