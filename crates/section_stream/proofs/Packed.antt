-- Packets that are built and received, and that none of them repeats the one before it.
use Rattle.std.proofs.Common.{◌≡◌, ℕ, zero, suc, ◌+◌, ◌%◌, ◌<◌, Bool, true, false, ◌==◌, List, [], ◌∷◌, length, Some, Ok, refl, sym, ◌∙◌, ap, subst, arith, ◌&&◌}
use Rattle.std.proofs.lemmas.Grind.{common_steps}
use Rattle.ts_packet.specs.Packets.{parse_packet, packet_bytes}
use Rattle.std.specs.Str.{bytes_eq}
use Rattle.section_stream.specs.Cuts.{Bytes, Received, kept_of, without_repeats_of, without_repeats}
use Rattle.section_stream.specs.Packing.{with_stuffing}

-- ---- what is received

-- a packet without an adaptation field parses as what it was built of
built_parses : (pid : ℕ) (start : Bool) (c : ℕ) (payload : Bytes) → pid < 8192 → c < 16
    → parse_packet (packet_bytes pid start c payload) ≡ Ok (record { pid = pid; start = start; counter = c; payload = payload })
built_parses pid true c payload h k = grind (arith, common_steps)
built_parses pid false c payload h k = grind (arith, common_steps)

length-filled : (bytes : Bytes) → 0 < length (with_stuffing bytes)
length-filled bytes = grind (arith, common_steps)

pub kept_built : (pid k : ℕ) (start : Bool) (c : ℕ) (bytes : Bytes) → pid < 8192 → c < 16
    → kept_of pid k (parse_packet (packet_bytes pid start c (with_stuffing bytes))) ≡ Some (record { number = k; start = start; counter = c; payload = with_stuffing bytes })
kept_built pid k start c bytes h i = ap (kept_of pid k) (built_parses pid start c (with_stuffing bytes) h i) ∙ rw (same, full) refl where
  same : (pid == pid) ≡ true
  same = grind arith

  full : (length (with_stuffing bytes) == 0) ≡ false
  full = grind (arith, length-filled bytes)

-- ---- none repeats the one before it

-- the counters follow one another from c on
abbrev pub Follow : ℕ → List Received → Type 0
Follow c [] = Unit {0}
Follow c (q ∷ qs) = (q.counter ≡ c) × Follow ((c + 1) % 16) qs

no_repeat : (a q : Received) → q.counter ≡ (a.counter + 1) % 16 → ((a.counter == q.counter) && bytes_eq a.payload q.payload) ≡ false
no_repeat a q e = rw other refl where
  other : (a.counter == q.counter) ≡ false
  other = grind (arith, e)

pub none_repeats : (a : Received) (qs : List Received) → Follow ((a.counter + 1) % 16) qs → without_repeats_of a qs ≡ qs
none_repeats a [] f = refl
none_repeats a (q ∷ qs) f =
    rw (no_repeat a q f.0) (ap (λ rs. q ∷ rs) (none_repeats q qs (subst (λ x. Follow ((x + 1) % 16) qs) (sym f.0) f.1)))

-- the counter after n packets more
abbrev pub counter_past : ℕ → ℕ → ℕ
counter_past zero c = c
counter_past (suc n) c = counter_past n ((c + 1) % 16)

pub counter_past_is : (n c : ℕ) → c < 16 → counter_past n c ≡ (c + n) % 16
counter_past_is zero c h = omega arith
counter_past_is (suc n) c h = counter_past_is n ((c + 1) % 16) (omega arith) ∙ omega arith

pub all_stay : (qs : List Received) (c : ℕ) → Follow c qs → without_repeats qs ≡ qs
all_stay [] c f = refl
all_stay (a ∷ qs) c f = ap (λ rs. a ∷ rs) (none_repeats a qs (subst (λ x. Follow ((x + 1) % 16) qs) (sym f.0) f.1))
