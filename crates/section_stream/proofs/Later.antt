-- What follows unbroken on other packets is cut whole, whatever came before.
use Rattle.std.proofs.Common.{◌≡◌, ℕ, suc, ◌+◌, ◌%◌, ◌<◌, Bool, true, false, List, [], ◌∷◌, ◌++◌, length, None, refl, sym, ◌∙◌, ap, subst, arith, append_assoc, length-append, ◌==◌, ◌&&◌}
use Rattle.std.specs.List.{All, enumerate_from, filter_map, flat_map, fold}
use Rattle.std.proofs.lemmas.List.{map-append}
use Rattle.std.proofs.lemmas.List.Elements.{filter_map-append}
use Rattle.ts_packet.specs.Packets.{parse_packet}
use Rattle.std.specs.Str.{bytes_eq}
use Rattle.section_stream.specs.Cuts.{Bytes, Received, Cut, kept_of, without_repeats_of, without_repeats, cuts_at, cuts_of}
use Rattle.section_stream.specs.Packing.{MuxState, IsSectionLike}
use Rattle.section_stream.specs.Groups.{Laid, layout_of, packets_from, packets_of_group, packets_of_groups, past_group, LaterGroupsAreGiven}
use Rattle.section_stream.specs.Rules.{nothing_counted}
use Rattle.section_stream.proofs.CallerLemmas.{packets_of_groups-append, counter_in_range}
use Rattle.section_stream.proofs.Cutting.{bytes_of, run_is_cuts}
use Rattle.section_stream.proofs.Outputs.{received_from}
use Rattle.section_stream.proofs.Packed.{Follow, none_repeats}
use Rattle.section_stream.proofs.Grouped.{layout_taken, groups_taken, groups_received, groups_follow, groups_run}

-- ---- repeats

-- what is left of these packets ends with those
abbrev EndsWith : Received → List Received → List Received → Type 0
EndsWith a rs later = (front : List Received) × (without_repeats_of a rs ≡ front ++ later)

one_more : (a q : Received) (rs later : List Received) → EndsWith q rs later → EndsWith a (q ∷ rs) later
one_more a q rs later ends = by ((a.counter == q.counter) && bytes_eq a.payload q.payload) refl where
  by : (b : Bool) → ((a.counter == q.counter) && bytes_eq a.payload q.payload) ≡ b → EndsWith a (q ∷ rs) later
  by true e = (ends.0, rw e ends.1)
  by false e = (q ∷ ends.0, rw e (ap (λ ks. q ∷ ks) ends.1))

-- packets that follow on one another stay, but maybe the first of them
followed : (a : Received) (before : List Received) (q : Received) (later : List Received) → Follow ((q.counter + 1) % 16) later → EndsWith a (before ++ q ∷ later) later
followed a [] q later f = one_more a q later later ([], none_repeats q later f)
followed a (p ∷ before) q later f = one_more a p (before ++ q ∷ later) later (followed p before q later f)

stay : (before : List Received) (q : Received) (later : List Received) → Follow ((q.counter + 1) % 16) later
    → (front : List Received) × (without_repeats (before ++ q ∷ later) ≡ front ++ later)
stay [] q later f = (q ∷ [], ap (λ rs. q ∷ rs) (none_repeats q later f))
stay (p ∷ before) q later f = let more = followed p before q later f in (p ∷ more.0, ap (λ rs. p ∷ rs) more.1)

-- ---- cuts

cuts-append : (front later : List Received) → (earlier : List Cut) × (cuts_of (front ++ later) ≡ earlier ++ cuts_of later)
cuts-append [] later = ([], refl)
cuts-append (p ∷ ps) later =
    let more = cuts-append ps later in
    let here = cuts_at p (ps ++ later) in
    (here ++ more.0, ap (λ cs. here ++ cs) more.1 ∙ sym (append_assoc here more.0 (cuts_of later)))

-- after an unbroken stretch of at least one packet, what follows on it is cut as if it had come alone
pub cut_alone : (before first second : List Received) (c : ℕ) → 0 < length first → Follow c (first ++ second)
    → (earlier : List Cut) × (cuts_of (without_repeats (before ++ (first ++ second))) ≡ earlier ++ cuts_of second)
cut_alone before [] second c some f = absurd (omega (arith, some))
cut_alone before (q ∷ first) second c some f =
    let kept = stay before q (first ++ second) (subst (λ x. Follow ((x + 1) % 16) (first ++ second)) (sym f.0) f.1) in
    let cut = cuts-append (kept.0 ++ first) second in
    (cut.0, ap cuts_of (kept.1 ∙ sym (append_assoc kept.0 first second)) ∙ cut.1)

-- ---- packets of groups

enumerated : (n : ℕ) (xs ys : List Bytes) → (k : ℕ) × (enumerate_from n (xs ++ ys) ≡ enumerate_from n xs ++ enumerate_from k ys)
enumerated n [] ys = (n, refl)
enumerated n (x ∷ xs) ys = let more = enumerated (n + 1) xs ys in (more.0, ap (λ zs. (n, x) ∷ zs) more.1)

received-append : (pid n : ℕ) (xs ys : List Bytes) → (k : ℕ) × (received_from pid n (xs ++ ys) ≡ received_from pid n xs ++ received_from pid k ys)
received-append pid n xs ys =
    let parts = enumerated n xs ys in
    let kept = λ (x : ℕ × Bytes). kept_of pid x.0 (parse_packet x.1) in
    (parts.0, ap (filter_map kept) parts.1 ∙ filter_map-append kept (enumerate_from n xs) (enumerate_from parts.0 ys))

taken-append : (k : ℕ) (m : MuxState) (first second : List (List Bytes))
    → (n : ℕ) × (groups_taken k m.counter (first ++ second) ≡ groups_taken k m.counter first ++ groups_taken n (fold past_group m first).counter second)
taken-append k m [] second = (k, refl)
taken-append k m (g ∷ gs) second =
    let more = taken-append (k + length (layout_of g)) (past_group m g) gs second in
    let here = layout_taken k m.counter (layout_of g) in (
      more.0,
      ap (λ rs. here ++ rs) more.1
          ∙ sym (append_assoc here (groups_taken (k + length (layout_of g)) (past_group m g).counter gs) (groups_taken more.0 (fold past_group (past_group m g) gs).counter second)),
    )

as_many : (k pid c : ℕ) (ls : List Laid) → length (layout_taken k c ls) ≡ length (packets_from pid c ls)
as_many k pid c [] = refl
as_many k pid c (l ∷ ls) = ap suc (as_many (k + 1) pid ((c + 1) % 16) ls)

as_many_groups : (k : ℕ) (m : MuxState) (groups : List (List Bytes)) → length (groups_taken k m.counter groups) ≡ length (packets_of_groups m groups)
as_many_groups k m [] = refl
as_many_groups k m (g ∷ gs) =
    let rest = as_many_groups (k + length (layout_of g)) (past_group m g) gs in
    let here = as_many k m.pid m.counter (layout_of g) in
    let taken : length (layout_taken k m.counter (layout_of g) ++ groups_taken (k + length (layout_of g)) (past_group m g).counter gs)
    ≡ length (layout_taken k m.counter (layout_of g)) + length (groups_taken (k + length (layout_of g)) (past_group m g).counter gs) = length-append _ _ in
    let sent : length (packets_of_group m g ++ packets_of_groups (past_group m g) gs) ≡ length (packets_of_group m g) + length (packets_of_groups (past_group m g) gs) = length-append _ _ in
    omega (arith, rest, here, taken, sent)

-- the cuts of groups that stand alone
cut_of_groups : (n c : ℕ) (groups : List (List Bytes)) → c < 16 → All (All IsSectionLike) groups → bytes_of (cuts_of (groups_taken n c groups)) ≡ flat_map (λ g. g) groups
cut_of_groups n c groups lt all = sym (run_is_cuts None nothing_counted 0 (groups_taken n c groups) tt) ∙ groups_run n c 0 nothing_counted groups lt all

pub later-groups : LaterGroupsAreGiven
later-groups m before first second h i some like =
    let packets : (before ++ packets_of_groups m first) ++ packets_of_groups (fold past_group m first) second ≡ before ++ packets_of_groups m (first ++ second) =
    append_assoc before (packets_of_groups m first) (packets_of_groups (fold past_group m first) second) ∙ ap (λ ps. before ++ ps) (sym (packets_of_groups-append m first second)) in
    let came = received-append m.pid 0 before (packets_of_groups m (first ++ second)) in
    let parts = taken-append came.0 m first second in
    let next = (fold past_group m first).counter in
    let taken : received_from m.pid came.0 (packets_of_groups m (first ++ second)) ≡ groups_taken came.0 m.counter first ++ groups_taken parts.0 next second =
    groups_received came.0 m (first ++ second) h i ∙ parts.1 in
    let follow : Follow m.counter (groups_taken came.0 m.counter first ++ groups_taken parts.0 next second) = subst (Follow m.counter) parts.1 (groups_follow came.0 m.counter (first ++ second) i) in
    let many = as_many_groups came.0 m first in
    let cut = cut_alone (received_from m.pid 0 before) (groups_taken came.0 m.counter first) (groups_taken parts.0 next second) m.counter (omega (arith, some, many)) follow in (
      bytes_of cut.0,
      ap (λ ps. bytes_of (cuts_of (without_repeats (received_from m.pid 0 ps)))) packets
          ∙ ap (λ rs. bytes_of (cuts_of (without_repeats rs))) (came.1 ∙ ap (λ rs. received_from m.pid 0 before ++ rs) taken)
          ∙ ap bytes_of cut.1
          ∙ map-append (λ (c : Cut). c.bytes) cut.0 (cuts_of (groups_taken parts.0 next second))
          ∙ ap (λ bs. bytes_of cut.0 ++ bs) (cut_of_groups parts.0 next second (counter_in_range m first i) like),
    )
