-- One more packet: what stood for the packets stands for the longer list.
use Rattle.std.proofs.Common.{◌≡◌, ℕ, List, [], ◌∷◌, ◌++◌, Option, refl, sym, ◌∙◌, ap, subst, append_assoc, append-nil}
use Rattle.ts_packet.specs.Packets.{parse_packet}
use Rattle.section_stream.specs.Cuts.{Bytes, candidates}
use Rattle.section_stream.specs.declared.counts.Counts.{Counts}
use Rattle.section_stream.specs.Rules.{Receiving, DemuxState, StandsFor, HasReceived, at_start, step, after_all, one_more}
use Rattle.section_stream.specs.Inner.Rules.{HasRun, outputs}
use Rattle.section_stream.specs.Inner.Steps.{Gives}
use Rattle.section_stream.specs.Inner.Kept.{with_unfinished}
use Rattle.section_stream.proofs.Short.{state_short, both_short, step_short}
use Rattle.section_stream.proofs.Outputs.{pid_fed, candidates_append}

abbrev state_of : ℕ → Option (ℕ × Bytes) → Option Bytes → Counts → Receiving
state_of pid last opened counts = record { pid = pid; last = last; opened = opened; counts = counts }

same_state : (a b : Receiving) → a.pid ≡ b.pid → a.last ≡ b.last → a.opened ≡ b.opened → a.counts ≡ b.counts → a ≡ b
same_state a b p l o c =
    ap (λ x. state_of x a.last a.opened a.counts) p ∙ ap (λ x. state_of b.pid x a.opened a.counts) l
    ∙ ap (λ x. state_of b.pid b.last x a.counts) o ∙ ap (λ x. state_of b.pid b.last b.opened x) c

pid_step : (s : Receiving) (x : Bytes) → (step s x).0.pid ≡ s.pid
pid_step s x = pid_fed (one_more s) (parse_packet x)

pid_after : (s : Receiving) (packets : List Bytes) → (after_all s packets).pid ≡ s.pid
pid_after s [] = refl
pid_after s (x ∷ xs) = pid_after (step s x).0 xs ∙ pid_step s x

after_append : (s : Receiving) (packets : List Bytes) (x : Bytes) → after_all s (packets ++ x ∷ []) ≡ (step (after_all s packets) x).0
after_append s [] x = refl
after_append s (y ∷ ys) x = after_append (step s y).0 ys x

-- with its short tails uncounted, the state is the one that the packets leave
settled : (s : Receiving) (packets : List Bytes) → HasReceived s packets → state_short 0 s ≡ after_all (at_start s.pid) packets
settled s packets h = same_state (state_short 0 s) (after_all (at_start s.pid) packets) (sym (pid_after (at_start s.pid) packets)) h.last h.opened h.counts

stepped : (s : Receiving) (packets : List Bytes) (x : Bytes) → HasReceived s packets → both_short 0 (step s x) ≡ step (after_all (at_start s.pid) packets) x
stepped s packets x h = sym (step_short 0 s x) ∙ ap (λ t. step t x) (settled s packets h)

pub stands_step : (s : Receiving) (packets : List Bytes) (x : Bytes) → HasReceived s packets → HasReceived (step s x).0 (packets ++ x ∷ [])
stands_step s packets x h =
    let left : state_short 0 (step s x).0 ≡ after_all (at_start s.pid) (packets ++ x ∷ []) =
    ap (λ y. y.0) (stepped s packets x h) ∙ sym (after_append (at_start s.pid) packets x) in
    let here : state_short 0 (step s x).0 ≡ after_all (at_start (step s x).0.pid) (packets ++ x ∷ []) =
    left ∙ ap (λ i. after_all (at_start i) (packets ++ x ∷ [])) (sym (pid_step s x)) in
    record { last = ap (λ t. t.last) here; opened = ap (λ t. t.opened) here; counts = ap (λ t. t.counts) here }

pub cuts_step : (s : Receiving) (packets : List Bytes) (x : Bytes) → HasReceived s packets
    → candidates s.pid (packets ++ x ∷ []) ≡ candidates s.pid packets ++ (step s x).1
cuts_step s packets x h =
    let t = after_all (at_start s.pid) packets in
    let same : t.pid ≡ s.pid = pid_after (at_start s.pid) packets in
    let begun : t ≡ after_all (at_start t.pid) packets = ap (λ i. after_all (at_start i) packets) (sym same) in
    subst (λ i. candidates i (packets ++ x ∷ []) ≡ candidates i packets ++ (step t x).1) same (candidates_append t packets x begun)
    ∙ ap (λ out. candidates s.pid packets ++ out) (sym (ap (λ y. y.1) (stepped s packets x h)))

-- the count of short tails stays
short_step : (s : Receiving) (x : Bytes) → (step s x).0.counts.short_tail ≡ s.counts.short_tail
short_step s x = ap (λ y. y.0.counts.short_tail) (step_short s.counts.short_tail s x)

short_after : (s : Receiving) (packets : List Bytes) → (after_all s packets).counts.short_tail ≡ s.counts.short_tail
short_after s [] = refl
short_after s (x ∷ xs) = short_after (step s x).0 xs ∙ short_step s x

-- ---- packets one after another

received_all : (s : Receiving) (xs packets : List Bytes) → HasReceived s packets → HasReceived (after_all s xs) (packets ++ xs)
received_all s [] packets h = subst (λ ps. HasReceived s ps) (sym (append-nil packets)) h
received_all s (x ∷ xs) packets h =
    subst (λ ps. HasReceived (after_all (step s x).0 xs) ps) (append_assoc packets (x ∷ []) xs) (received_all (step s x).0 xs (packets ++ x ∷ []) (stands_step s packets x h))

cuts_all : (s : Receiving) (xs packets : List Bytes) → HasReceived s packets → candidates s.pid (packets ++ xs) ≡ candidates s.pid packets ++ outputs s xs
cuts_all s [] packets h = ap (candidates s.pid) (append-nil packets) ∙ sym (append-nil (candidates s.pid packets))
cuts_all s (x ∷ xs) packets h =
    let t : Receiving = (step s x).0 in
    let more : candidates s.pid ((packets ++ x ∷ []) ++ xs) ≡ candidates s.pid (packets ++ x ∷ []) ++ outputs t xs =
    subst (λ pid. candidates pid ((packets ++ x ∷ []) ++ xs) ≡ candidates pid (packets ++ x ∷ []) ++ outputs t xs) (pid_step s x) (cuts_all t xs (packets ++ x ∷ []) (stands_step s packets x h)) in
    sym (ap (candidates s.pid) (append_assoc packets (x ∷ []) xs)) ∙ more ∙ ap (λ c. c ++ outputs t xs) (cuts_step s packets x h)
    ∙ append_assoc (candidates s.pid packets) (step s x).1 (outputs t xs)

pub received_run : (s t : Receiving) (xs before after : List Bytes) → HasRun s t xs before after → (packets : List Bytes) → HasReceived s packets → HasReceived t (packets ++ xs)
received_run s t xs before after r packets h = subst (λ y. HasReceived y (packets ++ xs)) r.state (received_all s xs packets h)

pub cuts_run : (s t : Receiving) (xs out : List Bytes) → HasRun s t xs [] out → (packets : List Bytes) → HasReceived s packets → candidates s.pid (packets ++ xs) ≡ candidates s.pid packets ++ out
cuts_run s t xs out r packets h = cuts_all s xs packets h ∙ ap (λ y. candidates s.pid packets ++ y) (sym r.out)

pub pid_run : (s t : Receiving) (xs before after : List Bytes) → HasRun s t xs before after → t.pid ≡ s.pid
pid_run s t xs before after r = ap (λ y. y.pid) (sym r.state) ∙ pid_after s xs

pub short_run : (s t : Receiving) (xs before after : List Bytes) → HasRun s t xs before after → t.counts.short_tail ≡ s.counts.short_tail
short_run s t xs before after r = ap (λ y. y.counts.short_tail) (sym r.state) ∙ short_after s xs

pub run_none : (s : Receiving) (before : List Bytes) → HasRun s s [] before before
run_none s before = record { state = refl; out = sym (append-nil before) }

pub run_more : (s t u : Receiving) (x : Bytes) (xs before mid after : List Bytes) → Gives (step s x) t before mid → HasRun t u xs mid after → HasRun s u (x ∷ xs) before after
run_more s t u x xs before mid after g r = record {
  state = ap (λ y. after_all y xs) g.state ∙ r.state;
  out = r.out ∙ ap (λ y. y ++ outputs t xs) g.out ∙ append_assoc before (step s x).1 (outputs t xs) ∙ ap (λ y. before ++ ((step s x).1 ++ outputs y xs)) (sym g.state);
}

pub run_one : (s t : Receiving) (x : Bytes) (before after : List Bytes) → Gives (step s x) t before after → HasRun s t (x ∷ []) before after
run_one s t x before after g = run_more s t t x [] before after after g (run_none t after)

-- ---- one packet, where nothing is unfinished

first_run : (r t : Receiving) (x : Bytes) (before out : List Bytes) → before ≡ [] → Gives (step r x) t before out → HasRun r t (x ∷ []) [] out
first_run r t x before out b g = subst (λ y. HasRun r t (x ∷ []) y out) b (run_one r t x before out g)

pub feed_stands : (d : DemuxState) (r t : Receiving) (u x : Bytes) (before out : List Bytes) → with_unfinished r u ≡ d → before ≡ [] → Gives (step r x) t before out
    → (packets : List Bytes) → StandsFor d packets → StandsFor (with_unfinished t u) (packets ++ x ∷ [])
feed_stands d r t u x before out v b g =
    subst (λ (y : DemuxState). (packets : List Bytes) → StandsFor y packets → StandsFor (with_unfinished t u) (packets ++ x ∷ [])) v
    (λ packets h. record { received = received_run r t (x ∷ []) [] out (first_run r t x before out b g) packets h.received; whole = h.whole })

pub feed_cuts : (d : DemuxState) (r t : Receiving) (u x : Bytes) (before out : List Bytes) → with_unfinished r u ≡ d → before ≡ [] → Gives (step r x) t before out
    → (packets : List Bytes) → StandsFor d packets → candidates d.pid (packets ++ x ∷ []) ≡ candidates d.pid packets ++ out
feed_cuts d r t u x before out v b g =
    subst (λ (y : DemuxState). (packets : List Bytes) → StandsFor y packets → candidates y.pid (packets ++ x ∷ []) ≡ candidates y.pid packets ++ out) v
    (λ packets h. cuts_run r t (x ∷ []) out (first_run r t x before out b g) packets h.received)

pub feed_pid : (d : DemuxState) (r t : Receiving) (u x : Bytes) (before out : List Bytes) → with_unfinished r u ≡ d → Gives (step r x) t before out → t.pid ≡ d.pid
feed_pid d r t u x before out v g = pid_run r t (x ∷ []) before out (run_one r t x before out g) ∙ ap (λ (y : DemuxState). y.pid) v

pub feed_short : (d : DemuxState) (r t : Receiving) (u x : Bytes) (before out : List Bytes) → with_unfinished r u ≡ d → Gives (step r x) t before out → t.counts.short_tail ≡ d.counts.short_tail
feed_short d r t u x before out v g = short_run r t (x ∷ []) before out (run_one r t x before out g) ∙ ap (λ (y : DemuxState). y.counts.short_tail) v
