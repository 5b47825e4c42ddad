-- Packets of other PIDs don't matter to what is cut on one.
use Rattle.std.proofs.Common.{ℕ, zero, suc, ◌≡◌, ◌+◌, ◌%◌, Bool, true, false, cond, not, ◌==◌, ◌&&◌, ◌||◌, nat_le, List, [], ◌∷◌, ◌++◌, length, map, take, drop, Option, Some, None, Result, Ok, Err, refl, sym, ap, subst, ◌∙◌}
use Rattle.std.specs.Prelude.{slice_index}
use Rattle.std.specs.List.{filter_map, enumerate_from, cons_option}
use Rattle.std.specs.Option.{option_map}
use Rattle.std.proofs.lemmas.Bool.{ne_eqb, eq-eqb}
use Rattle.std.proofs.lemmas.List.{append-nil, map-append}
use Rattle.std.proofs.lemmas.List.Elements.{filter-append}
use Rattle.carousel_profile.specs.declared.TheConstants.{PACKET_LENGTH}
use Rattle.ts_packet.specs.Packets.{Fields, parse_packet}
use Rattle.ts_packet.specs.declared.PacketFault.{PacketFault}
use Rattle.std.specs.Str.{bytes_eq}
use Rattle.section_stream.specs.Cuts.{Bytes, Received, Cut, kept_of, payloads_in, without_repeats_of, without_repeats, pointer_of, pointer_fits, going_on, whole_len, opened_in, cuts_at, cuts_of, candidates}
use Rattle.section_stream.specs.Rules as streams
use Rattle.psi_tables.specs.Receiving.{pid_in, pid_of, is_pid, of_pid, HeardOn}

-- ---- what is cut doesn't depend on the packets' numbers

abbrev unnumbered : Received → Received
unnumbered r = record { number = 0; start = r.start; counter = r.counter; payload = r.payload }

abbrev plain : List Received → List Received
plain rs = map unnumbered rs

abbrev bytes_of : List Cut → List Bytes
bytes_of cs = map (λ c. c.bytes) cs

repeats_plain : (a : Received) (bs : List Received) → without_repeats_of (unnumbered a) (plain bs) ≡ plain (without_repeats_of a bs)
repeats_plain a [] = refl
repeats_plain a (b ∷ bs) = go ((a.counter == b.counter) && bytes_eq a.payload b.payload) (repeats_plain b bs) where
  go : (t : Bool) → without_repeats_of (unnumbered b) (plain bs) ≡ plain (without_repeats_of b bs)
      → cond t (without_repeats_of (unnumbered b) (plain bs)) (unnumbered b ∷ without_repeats_of (unnumbered b) (plain bs)) ≡ plain (cond t (without_repeats_of b bs) (b ∷ without_repeats_of b bs))
  go true later = later
  go false later = ap (λ (rs : List Received). unnumbered b ∷ rs) later

all_repeats_plain : (rs : List Received) → without_repeats (plain rs) ≡ plain (without_repeats rs)
all_repeats_plain [] = refl
all_repeats_plain (a ∷ bs) = ap (λ (rs : List Received). unnumbered a ∷ rs) (repeats_plain a bs)

going_plain : (counter : ℕ) (qs : List Received) → going_on counter (plain qs) ≡ going_on counter qs
going_plain counter [] = refl
going_plain counter (q ∷ qs) =
    ap (λ (more : Bytes). cond (not (q.counter == (counter + 1) % 16)) [] (cond q.start (cond (pointer_fits q) (take (pointer_of q) (drop 1 q.payload)) []) (q.payload ++ more))) (going_plain q.counter qs)

opened_plain : (steps m n : ℕ) (here later : Bytes) → bytes_of (opened_in steps m here later) ≡ bytes_of (opened_in steps n here later)
opened_plain zero m n here later = refl
opened_plain (suc steps) m n here later = by ((length here == 0) || (slice_index here 0 == 0xFF)) (whole_len (here ++ later)) refl refl (λ k. opened_plain steps m n (drop k here) later) where
  next : (k : ℕ) (t : Bool) → bytes_of (opened_in steps m (drop k here) later) ≡ bytes_of (opened_in steps n (drop k here) later)
      → bytes_of (cond t (opened_in steps m (drop k here) later) []) ≡ bytes_of (cond t (opened_in steps n (drop k here) later) [])
  next k true more = more
  next k false more = refl

  by : (t : Bool) (o : Option ℕ) → ((length here == 0) || (slice_index here 0 == 0xFF)) ≡ t → whole_len (here ++ later) ≡ o
      → ((k : ℕ) → bytes_of (opened_in steps m (drop k here) later) ≡ bytes_of (opened_in steps n (drop k here) later))
      → bytes_of (opened_in (suc steps) m here later) ≡ bytes_of (opened_in (suc steps) n here later)
  by true o t f more = rw t refl
  by false None t f more = rw (t, f) refl
  by false (Some k) t f more = rw (t, f) (ap (λ (bs : List Bytes). take k (here ++ later) ∷ bs) (next k (nat_le k (length here)) (more k)))

at_plain : (p : Received) (ps : List Received) → bytes_of (cuts_at (unnumbered p) (plain ps)) ≡ bytes_of (cuts_at p ps)
at_plain p ps = go (p.start && pointer_fits p) where
  here : Bytes
  here = drop (1 + pointer_of p) p.payload

  go : (t : Bool) → bytes_of (cond t (opened_in PACKET_LENGTH 0 here (going_on p.counter (plain ps))) []) ≡ bytes_of (cond t (opened_in PACKET_LENGTH p.number here (going_on p.counter ps)) [])
  go true = ap (λ (later : Bytes). bytes_of (opened_in PACKET_LENGTH 0 here later)) (going_plain p.counter ps) ∙ opened_plain PACKET_LENGTH 0 p.number here (going_on p.counter ps)
  go false = refl

cuts_plain : (rs : List Received) → bytes_of (cuts_of (plain rs)) ≡ bytes_of (cuts_of rs)
cuts_plain [] = refl
cuts_plain (p ∷ ps) =
    map-append (λ (c : Cut). c.bytes) (cuts_at (unnumbered p) (plain ps)) (cuts_of (plain ps))
    ∙ ap (λ (bs : List Bytes). bs ++ bytes_of (cuts_of (plain ps))) (at_plain p ps) ∙ ap (λ (bs : List Bytes). bytes_of (cuts_at p ps) ++ bs) (cuts_plain ps)
    ∙ sym (map-append (λ (c : Cut). c.bytes) (cuts_at p ps) (cuts_of ps))

kept_plain : (pid n : ℕ) (r : Result Fields PacketFault) → option_map unnumbered (kept_of pid n r) ≡ kept_of pid 0 r
kept_plain pid n (Err fault) = refl
kept_plain pid n (Ok p) = go ((p.pid == pid) && not (length p.payload == 0)) where
  numbered : ℕ → Received
  numbered k = record { number = k; start = p.start; counter = p.counter; payload = p.payload }

  go : (t : Bool) → option_map unnumbered (cond {A = Option Received} t (Some (numbered n)) None) ≡ cond t (Some (numbered 0)) None
  go true = refl
  go false = refl

-- the packet, where it is one of the PID
abbrev kept : ℕ → Bytes → Option Received
kept pid packet = kept_of pid 0 (parse_packet packet)

onto_plain : (o : Option Received) (rs : List Received) → plain (cons_option o rs) ≡ cons_option (option_map unnumbered o) (plain rs)
onto_plain (Some r) rs = refl
onto_plain None rs = refl

received_plain : (pid n : ℕ) (packets : List Bytes) → plain (filter_map (λ x. kept_of pid x.0 (parse_packet x.1)) (enumerate_from n packets)) ≡ filter_map (kept pid) packets
received_plain pid n [] = refl
received_plain pid n (p ∷ ps) =
    let rest = filter_map (λ x. kept_of pid x.0 (parse_packet x.1)) (enumerate_from (n + 1) ps) in
    onto_plain (kept_of pid n (parse_packet p)) rest
    ∙ ap (λ (o : Option Received). cons_option o (plain rest)) (kept_plain pid n (parse_packet p))
    ∙ ap (λ (rs : List Received). cons_option (kept pid p) rs) (received_plain pid (n + 1) ps)

cut_plain : (pid : ℕ) (packets : List Bytes) → candidates pid packets ≡ bytes_of (cuts_of (without_repeats (filter_map (kept pid) packets)))
cut_plain pid packets =
    sym (cuts_plain (without_repeats (payloads_in pid packets))) ∙ ap (λ (rs : List Received). bytes_of (cuts_of rs)) (sym (all_repeats_plain (payloads_in pid packets)))
    ∙ ap (λ (rs : List Received). bytes_of (cuts_of (without_repeats rs))) (received_plain pid 0 packets)

-- ---- nor on packets of other PIDs

not_kept : (pid : ℕ) (r : Result Fields PacketFault) → is_pid pid (pid_in r) ≡ false → kept_of pid 0 r ≡ None
not_kept pid (Err fault) e = refl
not_kept pid (Ok p) e = go (length p.payload == 0) e where
  received_as : Received
  received_as = record { number = 0; start = p.start; counter = p.counter; payload = p.payload }

  neither : (a : Bool) → cond {A = Option Received} (a && false) (Some received_as) None ≡ None
  neither true = refl
  neither false = refl

  go : (t : Bool) → is_pid pid (cond t None (Some p.pid)) ≡ false → cond {A = Option Received} ((p.pid == pid) && not t) (Some received_as) None ≡ None
  go true f = neither (p.pid == pid)
  go false f = rw f refl

alone : (pid : ℕ) (packets : List Bytes) → filter_map (kept pid) (of_pid pid packets) ≡ filter_map (kept pid) packets
alone pid [] = refl
alone pid (p ∷ ps) = go (is_pid pid (pid_of p)) refl (alone pid ps) where
  go : (t : Bool) → is_pid pid (pid_of p) ≡ t → filter_map (kept pid) (of_pid pid ps) ≡ filter_map (kept pid) ps
      → filter_map (kept pid) (cond t (p ∷ of_pid pid ps) (of_pid pid ps)) ≡ cons_option (kept pid p) (filter_map (kept pid) ps)
  go true f later = ap (λ (rs : List Received). cons_option (kept pid p) rs) later
  go false f later = later ∙ sym (ap (λ (o : Option Received). cons_option o (filter_map (kept pid) ps)) (not_kept pid (parse_packet p) f))

cut_alone : (pid : ℕ) (packets : List Bytes) → candidates pid (of_pid pid packets) ≡ candidates pid packets
cut_alone pid packets =
    cut_plain pid (of_pid pid packets) ∙ ap (λ (rs : List Received). bytes_of (cuts_of (without_repeats rs))) (alone pid packets) ∙ sym (cut_plain pid packets)

-- ---- one packet

of_pid_more : (pid : ℕ) (packets : List Bytes) (x : Bytes) → of_pid pid (packets ++ x ∷ []) ≡ of_pid pid packets ++ of_pid pid (x ∷ [])
of_pid_more pid packets x = filter-append (λ p. is_pid pid (pid_of p)) packets (x ∷ [])

of_pid_with : (pid : ℕ) (packets : List Bytes) (x : Bytes) → is_pid pid (pid_of x) ≡ true → of_pid pid (packets ++ x ∷ []) ≡ of_pid pid packets ++ x ∷ []
of_pid_with pid packets x t = of_pid_more pid packets x ∙ ap (λ (b : Bool). of_pid pid packets ++ cond b (x ∷ []) []) t

of_pid_without : (pid : ℕ) (packets : List Bytes) (x : Bytes) → is_pid pid (pid_of x) ≡ false → of_pid pid (packets ++ x ∷ []) ≡ of_pid pid packets
of_pid_without pid packets x f = of_pid_more pid packets x ∙ ap (λ (b : Bool). of_pid pid packets ++ cond b (x ∷ []) []) f ∙ append-nil (of_pid pid packets)

-- what a packet of the PID leaves
pub heard_more : (pid : ℕ) (d e : streams.DemuxState) (x : Bytes) → is_pid pid (pid_of x) ≡ true → e.pid ≡ d.pid
    → ((packets : List Bytes) → streams.StandsFor d packets → streams.StandsFor e (packets ++ x ∷ []))
    → (packets : List Bytes) → HeardOn pid d packets → HeardOn pid e (packets ++ x ∷ [])
heard_more pid d e x t same stands packets h = record {
  own = same ∙ h.own;
  stands = subst (λ (ps : List Bytes). streams.StandsFor e ps) (sym (of_pid_with pid packets x t)) (stands (of_pid pid packets) h.stands);
}

pub cuts_more : (pid : ℕ) (d : streams.DemuxState) (x : Bytes) (new : List Bytes) → is_pid pid (pid_of x) ≡ true
    → ((packets : List Bytes) → streams.StandsFor d packets → candidates d.pid (packets ++ x ∷ []) ≡ candidates d.pid packets ++ new)
    → (packets : List Bytes) → HeardOn pid d packets → candidates pid (packets ++ x ∷ []) ≡ candidates pid packets ++ new
cuts_more pid d x new t cuts packets h =
    let own : candidates pid (of_pid pid packets ++ x ∷ []) ≡ candidates pid (of_pid pid packets) ++ new =
    ap (λ (q : ℕ). candidates q (of_pid pid packets ++ x ∷ [])) (sym h.own) ∙ cuts (of_pid pid packets) h.stands ∙ ap (λ (q : ℕ). candidates q (of_pid pid packets) ++ new) h.own in
    sym (cut_alone pid (packets ++ x ∷ [])) ∙ ap (candidates pid) (of_pid_with pid packets x t) ∙ own ∙ ap (λ (cs : List Bytes). cs ++ new) (cut_alone pid packets)

-- what a packet of another PID leaves
pub heard_still : (pid : ℕ) (d : streams.DemuxState) (x : Bytes) → is_pid pid (pid_of x) ≡ false → (packets : List Bytes) → HeardOn pid d packets → HeardOn pid d (packets ++ x ∷ [])
heard_still pid d x f packets h = record { own = h.own; stands = subst (λ (ps : List Bytes). streams.StandsFor d ps) (sym (of_pid_without pid packets x f)) h.stands }

pub cuts_still : (pid : ℕ) (x : Bytes) → is_pid pid (pid_of x) ≡ false → (packets : List Bytes) → candidates pid (packets ++ x ∷ []) ≡ candidates pid packets
cuts_still pid x f packets = sym (cut_alone pid (packets ++ x ∷ [])) ∙ ap (candidates pid) (of_pid_without pid packets x f) ∙ cut_alone pid packets

-- the PID of a packet, as the code compares it
pub other_pid : (own pid : ℕ) (x : Bytes) → pid_of x ≡ Some pid → (pid ≡ own → ⊥) → is_pid own (pid_of x) ≡ false
other_pid own pid x is other = ap (is_pid own) is ∙ ne_eqb pid own other

pub own_pid : (own pid : ℕ) (x : Bytes) → pid_of x ≡ Some pid → pid ≡ own → is_pid own (pid_of x) ≡ true
own_pid own pid x is same = ap (is_pid own) is ∙ eq-eqb pid own same
