-- What is cut on a PID depends on the packets of that PID alone, but for the packets' numbers among all that came.
use Rattle.std.proofs.Common.{ℕ, zero, suc, ◌≡◌, ◌+◌, ◌-◌, ◌/◌, ◌%◌, Bool, true, false, cond, not, ◌==◌, ◌&&◌, ◌||◌, nat_le, nat_lt, List, [], ◌∷◌, ◌++◌, length, map, take, drop, Option, Some, None, Result, Ok, Err, refl, sym, ap, ◌∙◌}
use Rattle.std.specs.Prelude.{slice_index, if◌then◌else◌}
use Rattle.std.specs.List.{filter, filter_map, enumerate_from, cons_option}
use Rattle.std.specs.Option.{option_map}
use Rattle.std.proofs.lemmas.List.{append-nil, map-append}
use Rattle.std.proofs.lemmas.List.Elements.{filter-append}
use Rattle.ts_packet.specs.Packets.{Fields, control, parse_packet}
use Rattle.carousel_profile.specs.declared.TheConstants.{PACKET_LENGTH}
use Rattle.ts_packet.specs.declared.PacketFault.{PacketFault}
use Rattle.ts_packet.specs.declared.PacketFault.TheVariants.{NoSync, Errored, Scrambled, Reserved, BadField}
use Rattle.std.specs.Str.{bytes_eq}
use Rattle.section_stream.specs.Cuts.{Bytes, Received, Cut, kept_of, payloads_in, without_repeats_of, without_repeats, pointer_of, pointer_fits, going_on, whole_len, opened_in, cuts_at, cuts_of, cuts, candidates}
use Rattle.mount_table.specs.Receiving.{pid_in, pid_of, is_pid, of_pid, header_pid, with_header_pid}
use Rattle.mount_table.specs.Laws.{unnumbered_cuts, OnePidDecides}

-- ---- what is cut doesn't depend on the packets' numbers

abbrev unnumbered : Received → Received
unnumbered r = record { number = 0; start = r.start; counter = r.counter; payload = r.payload }

abbrev plain : List Received → List Received
plain rs = map unnumbered rs

abbrev places_of : List Cut → List (ℕ × Bytes)
places_of cs = map (λ c. (c.offset, c.bytes)) cs

-- one candidate before others
abbrev first_of : Bytes → Bytes → ℕ → List (ℕ × Bytes) → List (ℕ × Bytes)
first_of here later k rest = (PACKET_LENGTH - length here, take k (here ++ later)) ∷ rest

repeats_plain : (a : Received) (bs : List Received) → without_repeats_of (unnumbered a) (plain bs) ≡ plain (without_repeats_of a bs)
repeats_plain a [] = refl
repeats_plain a (b ∷ bs) = go ((a.counter == b.counter) && bytes_eq a.payload b.payload) (repeats_plain b bs) where
  go : (t : Bool) → without_repeats_of (unnumbered b) (plain bs) ≡ plain (without_repeats_of b bs)
      → cond t (without_repeats_of (unnumbered b) (plain bs)) (unnumbered b ∷ without_repeats_of (unnumbered b) (plain bs)) ≡ plain (cond t (without_repeats_of b bs) (b ∷ without_repeats_of b bs))
  go true later = later
  go false later = ap (λ (rs : List Received). unnumbered b ∷ rs) later

all_repeats_plain : (rs : List Received) → without_repeats (plain rs) ≡ plain (without_repeats rs)
all_repeats_plain [] = refl
all_repeats_plain (a ∷ bs) = ap (λ (rs : List Received). unnumbered a ∷ rs) (repeats_plain a bs)

going_plain : (counter : ℕ) (qs : List Received) → going_on counter (plain qs) ≡ going_on counter qs
going_plain counter [] = refl
going_plain counter (q ∷ qs) =
    ap (λ (more : Bytes). cond (not (q.counter == (counter + 1) % 16)) [] (cond q.start (cond (pointer_fits q) (take (pointer_of q) (drop 1 q.payload)) []) (q.payload ++ more))) (going_plain q.counter qs)

opened_plain : (steps m n : ℕ) (here later : Bytes) → places_of (opened_in steps m here later) ≡ places_of (opened_in steps n here later)
opened_plain zero m n here later = refl
opened_plain (suc steps) m n here later = by ((length here == 0) || (slice_index here 0 == 0xFF)) (whole_len (here ++ later)) refl refl (λ k. opened_plain steps m n (drop k here) later) where
  next : (k : ℕ) (t : Bool) → places_of (opened_in steps m (drop k here) later) ≡ places_of (opened_in steps n (drop k here) later)
      → places_of (cond t (opened_in steps m (drop k here) later) []) ≡ places_of (cond t (opened_in steps n (drop k here) later) [])
  next k true more = more
  next k false more = refl

  by : (t : Bool) (o : Option ℕ) → ((length here == 0) || (slice_index here 0 == 0xFF)) ≡ t → whole_len (here ++ later) ≡ o
      → ((k : ℕ) → places_of (opened_in steps m (drop k here) later) ≡ places_of (opened_in steps n (drop k here) later))
      → places_of (opened_in (suc steps) m here later) ≡ places_of (opened_in (suc steps) n here later)
  by true o t f more = rw t refl
  by false None t f more = rw (t, f) refl
  by false (Some k) t f more = rw (t, f) (ap (first_of here later k) (next k (nat_le k (length here)) (more k)))

at_plain : (p : Received) (ps : List Received) → places_of (cuts_at (unnumbered p) (plain ps)) ≡ places_of (cuts_at p ps)
at_plain p ps = go (p.start && pointer_fits p) where
  here : Bytes
  here = drop (1 + pointer_of p) p.payload

  go : (t : Bool) → places_of (cond t (opened_in PACKET_LENGTH 0 here (going_on p.counter (plain ps))) []) ≡ places_of (cond t (opened_in PACKET_LENGTH p.number here (going_on p.counter ps)) [])
  go true = ap (λ (later : Bytes). places_of (opened_in PACKET_LENGTH 0 here later)) (going_plain p.counter ps) ∙ opened_plain PACKET_LENGTH 0 p.number here (going_on p.counter ps)
  go false = refl

cuts_plain : (rs : List Received) → places_of (cuts_of (plain rs)) ≡ places_of (cuts_of rs)
cuts_plain [] = refl
cuts_plain (p ∷ ps) =
    map-append (λ (c : Cut). (c.offset, c.bytes)) (cuts_at (unnumbered p) (plain ps)) (cuts_of (plain ps))
    ∙ ap (λ (xs : List (ℕ × Bytes)). xs ++ places_of (cuts_of (plain ps))) (at_plain p ps) ∙ ap (λ (xs : List (ℕ × Bytes)). places_of (cuts_at p ps) ++ xs) (cuts_plain ps)
    ∙ sym (map-append (λ (c : Cut). (c.offset, c.bytes)) (cuts_at p ps) (cuts_of ps))

kept_plain : (pid n : ℕ) (r : Result Fields PacketFault) → option_map unnumbered (kept_of pid n r) ≡ kept_of pid 0 r
kept_plain pid n (Err fault) = refl
kept_plain pid n (Ok p) = go ((p.pid == pid) && not (length p.payload == 0)) where
  numbered : ℕ → Received
  numbered k = record { number = k; start = p.start; counter = p.counter; payload = p.payload }

  go : (t : Bool) → option_map unnumbered (cond {A = Option Received} t (Some (numbered n)) None) ≡ cond t (Some (numbered 0)) None
  go true = refl
  go false = refl

-- the packet, where it is one of the PID
abbrev kept : ℕ → Bytes → Option Received
kept pid packet = kept_of pid 0 (parse_packet packet)

onto_plain : (o : Option Received) (rs : List Received) → plain (cons_option o rs) ≡ cons_option (option_map unnumbered o) (plain rs)
onto_plain (Some r) rs = refl
onto_plain None rs = refl

received_plain : (pid n : ℕ) (packets : List Bytes) → plain (filter_map (λ x. kept_of pid x.0 (parse_packet x.1)) (enumerate_from n packets)) ≡ filter_map (kept pid) packets
received_plain pid n [] = refl
received_plain pid n (p ∷ ps) =
    let rest = filter_map (λ x. kept_of pid x.0 (parse_packet x.1)) (enumerate_from (n + 1) ps) in
    onto_plain (kept_of pid n (parse_packet p)) rest
    ∙ ap (λ (o : Option Received). cons_option o (plain rest)) (kept_plain pid n (parse_packet p))
    ∙ ap (λ (rs : List Received). cons_option (kept pid p) rs) (received_plain pid (n + 1) ps)

cut_plain : (pid : ℕ) (packets : List Bytes) → unnumbered_cuts pid packets ≡ places_of (cuts_of (without_repeats (filter_map (kept pid) packets)))
cut_plain pid packets =
    sym (cuts_plain (without_repeats (payloads_in pid packets))) ∙ ap (λ (rs : List Received). places_of (cuts_of rs)) (sym (all_repeats_plain (payloads_in pid packets)))
    ∙ ap (λ (rs : List Received). places_of (cuts_of (without_repeats rs))) (received_plain pid 0 packets)

-- ---- nor on packets of other PIDs

not_kept : (pid : ℕ) (r : Result Fields PacketFault) → is_pid pid (pid_in r) ≡ false → kept_of pid 0 r ≡ None
not_kept pid (Err fault) e = refl
not_kept pid (Ok p) e = go (p.pid == pid) e where
  received_as : Received
  received_as = record { number = 0; start = p.start; counter = p.counter; payload = p.payload }

  go : (t : Bool) → t ≡ false → cond {A = Option Received} (t && not (length p.payload == 0)) (Some received_as) None ≡ None
  go true f = cc
  go false f = refl

-- a packet whose header has another PID, whether it parses or not
not_kept_header : (pid : ℕ) (p : Bytes) → (header_pid p == pid) ≡ false → kept pid p ≡ None
not_kept_header pid p e =
    go (slice_index p 0 == 0x47) (slice_index p 1 / 128 == 1) (slice_index p 3 / 64 == 0) (control p == 0) ((control p == 3) && nat_lt 182 (slice_index p 4)) where
      fields : Fields
      fields = record { pid = header_pid p; start = slice_index p 1 / 64 % 2 == 1; counter = slice_index p 3 % 16; payload = if control p == 1 then drop 4 p else (if control p == 3 then drop (5 + slice_index p 4) p else []) }

      go : (sync errored clear reserved long : Bool)
          → kept_of pid 0 (cond (not sync) (Err NoSync) (cond errored (Err Errored) (cond (not clear) (Err Scrambled) (cond reserved (Err Reserved) (cond long (Err BadField) (Ok fields)))))) ≡ None
      go false errored clear reserved long = refl
      go true true clear reserved long = refl
      go true false false reserved long = refl
      go true false true true long = refl
      go true false true false true = refl
      go true false true false false = not_kept pid (Ok fields) e

-- packets that aren't kept can go
alone_in : (pid : ℕ) (test : Bytes → Bool) → ((p : Bytes) → test p ≡ false → kept pid p ≡ None) → (packets : List Bytes) → filter_map (kept pid) (filter test packets) ≡ filter_map (kept pid) packets
alone_in pid test none [] = refl
alone_in pid test none (p ∷ ps) = go (test p) refl (alone_in pid test none ps) where
  go : (t : Bool) → test p ≡ t → filter_map (kept pid) (filter test ps) ≡ filter_map (kept pid) ps
      → filter_map (kept pid) (cond t (p ∷ filter test ps) (filter test ps)) ≡ cons_option (kept pid p) (filter_map (kept pid) ps)
  go true f later = ap (λ (rs : List Received). cons_option (kept pid p) rs) later
  go false f later = later ∙ sym (ap (λ (o : Option Received). cons_option o (filter_map (kept pid) ps)) (none p f))

alone : (pid : ℕ) (packets : List Bytes) → filter_map (kept pid) (of_pid pid packets) ≡ filter_map (kept pid) packets
alone pid packets = alone_in pid (λ p. is_pid pid (pid_of p)) (λ p f. not_kept pid (parse_packet p) f) packets

cut_alike : (pid : ℕ) (xs ys : List Bytes) → filter_map (kept pid) xs ≡ filter_map (kept pid) ys → unnumbered_cuts pid xs ≡ unnumbered_cuts pid ys
cut_alike pid xs ys e = cut_plain pid xs ∙ ap (λ (rs : List Received). places_of (cuts_of (without_repeats rs))) e ∙ sym (cut_plain pid ys)

bytes_of_places : (cs : List Cut) → map (λ (p : ℕ × Bytes). p.1) (places_of cs) ≡ map (λ c. c.bytes) cs
bytes_of_places [] = refl
bytes_of_places (c ∷ cs) = ap (λ (bs : List Bytes). c.bytes ∷ bs) (bytes_of_places cs)

sections_alike : (pid : ℕ) (xs ys : List Bytes) → unnumbered_cuts pid xs ≡ unnumbered_cuts pid ys → candidates pid xs ≡ candidates pid ys
sections_alike pid xs ys e =
    sym (bytes_of_places (cuts pid xs)) ∙ ap (λ (ps : List (ℕ × Bytes)). map (λ (p : ℕ × Bytes). p.1) ps) e ∙ bytes_of_places (cuts pid ys)

pub same_cuts : OnePidDecides
same_cuts pid xs ys e =
    let same = cut_alike pid xs ys (sym (alone pid xs) ∙ ap (filter_map (kept pid)) e ∙ alone pid ys) in record { places = same; sections = sections_alike pid xs ys same }

cut_alone : (pid : ℕ) (packets : List Bytes) → candidates pid (with_header_pid pid packets) ≡ candidates pid packets
cut_alone pid packets = sections_alike pid (with_header_pid pid packets) packets (cut_alike pid (with_header_pid pid packets) packets (alone_in pid (λ p. header_pid p == pid) (not_kept_header pid) packets))

-- ---- one packet more

handed_more : (pid : ℕ) (packets : List Bytes) (x : Bytes) → with_header_pid pid (packets ++ x ∷ []) ≡ with_header_pid pid packets ++ with_header_pid pid (x ∷ [])
handed_more pid packets x = filter-append (λ p. header_pid p == pid) packets (x ∷ [])

pub handed_with : (pid : ℕ) (packets : List Bytes) (x : Bytes) → (header_pid x == pid) ≡ true → with_header_pid pid (packets ++ x ∷ []) ≡ with_header_pid pid packets ++ x ∷ []
handed_with pid packets x t = handed_more pid packets x ∙ ap (λ (b : Bool). with_header_pid pid packets ++ cond b (x ∷ []) []) t

pub handed_without : (pid : ℕ) (packets : List Bytes) (x : Bytes) → (header_pid x == pid) ≡ false → with_header_pid pid (packets ++ x ∷ []) ≡ with_header_pid pid packets
handed_without pid packets x f = handed_more pid packets x ∙ ap (λ (b : Bool). with_header_pid pid packets ++ cond b (x ∷ []) []) f ∙ append-nil (with_header_pid pid packets)

-- what a packet of the PID adds, as a demultiplexer says it that was handed those of the PID alone
pub cuts_more : (pid own : ℕ) (packets : List Bytes) (x : Bytes) (new : List Bytes) → (header_pid x == pid) ≡ true → own ≡ pid
    → candidates own (with_header_pid pid packets ++ x ∷ []) ≡ candidates own (with_header_pid pid packets) ++ new → candidates pid (packets ++ x ∷ []) ≡ candidates pid packets ++ new
cuts_more pid own packets x new t same e =
    let here : candidates pid (with_header_pid pid packets ++ x ∷ []) ≡ candidates pid (with_header_pid pid packets) ++ new =
    ap (λ (q : ℕ). candidates q (with_header_pid pid packets ++ x ∷ [])) (sym same) ∙ e ∙ ap (λ (q : ℕ). candidates q (with_header_pid pid packets) ++ new) same in
    sym (cut_alone pid (packets ++ x ∷ [])) ∙ ap (candidates pid) (handed_with pid packets x t) ∙ here ∙ ap (λ (cs : List Bytes). cs ++ new) (cut_alone pid packets)

-- how many there are before and after it
pub count_before : (pid own : ℕ) (packets : List Bytes) → own ≡ pid → length (candidates own (with_header_pid pid packets)) ≡ length (candidates pid packets)
count_before pid own packets same = ap (λ (q : ℕ). length (candidates q (with_header_pid pid packets))) same ∙ ap (λ (cs : List Bytes). length cs) (cut_alone pid packets)

pub count_after : (pid own : ℕ) (packets : List Bytes) (x : Bytes) → (header_pid x == pid) ≡ true → own ≡ pid
    → length (candidates own (with_header_pid pid packets ++ x ∷ [])) ≡ length (candidates pid (packets ++ x ∷ []))
count_after pid own packets x t same =
    ap (λ (q : ℕ). length (candidates q (with_header_pid pid packets ++ x ∷ []))) same
    ∙ ap (λ (ps : List Bytes). length (candidates pid ps)) (sym (handed_with pid packets x t)) ∙ ap (λ (cs : List Bytes). length cs) (cut_alone pid (packets ++ x ∷ []))

-- a packet of another PID adds nothing
pub cuts_still : (pid : ℕ) (packets : List Bytes) (x : Bytes) → (header_pid x == pid) ≡ false → candidates pid (packets ++ x ∷ []) ≡ candidates pid packets
cuts_still pid packets x f = sym (cut_alone pid (packets ++ x ∷ [])) ∙ ap (candidates pid) (handed_without pid packets x f) ∙ cut_alone pid packets
