-- All that the rules give over raw packets are the cuts.
use Rattle.std.proofs.Common.{◌≡◌, ℕ, ◌+◌, ◌%◌, Bool, true, false, not, ◌&&◌, ◌==◌, List, [], ◌∷◌, ◌++◌, length, Option, Some, None, Result, Ok, Err, if◌then◌else◌, refl, sym, ◌∙◌, ap, subst, arith, append_assoc, append-nil}
use mathlib.Core.Bool.{true≢false}
use Rattle.std.specs.List.{filter_map, enumerate_from, cons_option}
use Rattle.std.specs.Str.{bytes_eq}
use Rattle.std.proofs.lemmas.List.{map-append}
use Rattle.std.proofs.lemmas.Slice.Eq.{bytes_eq-Decides}
use Rattle.ts_packet.specs.Packets.{Fields, parse_packet}
use Rattle.ts_packet.specs.declared.PacketFault.{PacketFault}
use Rattle.section_stream.specs.Cuts.{Bytes, Received, kept_of, without_repeats_of, without_repeats, going_on, cuts_at, cuts_of, candidates}
use Rattle.section_stream.specs.Rules.{Receiving, step, after_packet, with_counts, keeps, starts, goes_on, up, one_more, is_last, jumps_from, at_start, after_all}
use Rattle.section_stream.specs.Inner.Rules.{outputs}
use Rattle.section_stream.specs.declared.counts.Counts.{Counts}
use Rattle.section_stream.proofs.Cutting.{IsOpen, finish, finish_nothing, bytes_of, act, acts, onto}

abbrev pub received_from : ℕ → ℕ → List Bytes → List Received
received_from pid n xs = filter_map (λ x. kept_of pid x.0 (parse_packet x.1)) (enumerate_from n xs)

-- what is still to come of the open section and of the packets
abbrev pub to_come : Receiving → Received → List Received → List Bytes
to_come s a rs = finish s.opened (going_on a.counter (without_repeats_of a rs)) ++ bytes_of (cuts_of (without_repeats_of a rs))

-- the state's last packet is this one
pub record IsLast (s : Receiving) (a : Received) : Type 0 where
  pub last : s.last ≡ Some (a.counter, a.payload)
  pub opened : IsOpen s.opened

both : (a b : Bool) → (a && b) ≡ true → (a ≡ true) × (b ≡ true)
both true b e = (refl, e)
both false b e = cc

bytes_eq_is : (a b : Bytes) → bytes_eq a b ≡ true → a ≡ b
bytes_eq_is a b e = (bytes_eq-Decides a b).0 e

same_number_is : (m n : ℕ) → (m == n) ≡ true → m ≡ n
same_number_is m n e = grind (arith, e)

pair_of : {m n : ℕ} {x y : Bytes} → m ≡ n → x ≡ y → ◌≡◌ {A = ℕ × Bytes} (m, x) (n, y)
pair_of p q = λ i. (p i, q i)

-- a packet that is taken: what comes out with what is to come after it
taken : (o : Option Bytes) (k : Counts) (c : ℕ) (q : Received) (later : List Received) → IsOpen o → (b : Bool) → (q.counter == (c + 1) % 16) ≡ b
    → (ys : List Bytes) → ys ≡ finish (act (if not b then None else o) k q).opened (going_on q.counter later) ++ bytes_of (cuts_of later)
    → (act (if not b then None else o) k q).out ++ ys ≡ finish o (going_on c (q ∷ later)) ++ bytes_of (cuts_at q later ++ cuts_of later)
taken o k c q later h true t ys e =
    let is = acts o q (going_on q.counter later) k h in
    rw (e, t, map-append) (onto _ _ _ _ (bytes_of (cuts_of later)) is.0)
taken o k c q later h false t ys e =
    let is = acts None q (going_on q.counter later) k tt in
    let more = going_on q.counter later in
    rw (e, t, finish_nothing o h, map-append) (onto (act None k q).out (finish (act None k q).opened more) [] (bytes_of (cuts_at q later)) (bytes_of (cuts_of later)) is.0)

still_open : (o : Option Bytes) (k : Counts) (q : Received) → IsOpen o → (b : Bool) → IsOpen (act (if not b then None else o) k q).opened
still_open o k q h true = (acts o q [] k h).1
still_open o k q h false = (acts None q [] k tt).1

abbrev pub received_as : ℕ → Fields → Received
received_as n f = record { number = n; start = f.start; counter = f.counter; payload = f.payload }

-- the next state's last packet, and what comes out
abbrev pub Goes : Receiving → Received → Receiving × List Bytes → List Received → Type 0
Goes s a next rest = (b : Received) × IsLast next.0 b × ((rs : List Received) (ys : List Bytes) → ys ≡ to_come next.0 b rs → next.1 ++ ys ≡ to_come s a (rest ++ rs))

quiet : (s : Receiving) (a : Received) (k : Counts) → IsLast s a → Goes s a (record s { counts = k }, []) []
quiet s a k h = (a, record { last = h.last; opened = h.opened }, λ rs ys is. is)

repeated : (s : Receiving) (a q : Received) (k : Counts) → IsLast s a → ((a.counter == q.counter) && bytes_eq a.payload q.payload) ≡ true → Goes s a (record s { counts = k }, []) (q ∷ [])
repeated s a q k h r =
    let same = both (a.counter == q.counter) (bytes_eq a.payload q.payload) r in
    let counters = same_number_is a.counter q.counter same.0 in
    let payloads = bytes_eq_is a.payload q.payload same.1 in (
      q,
      record { last = h.last ∙ ap (λ (u : ℕ × Bytes). Some u) (pair_of counters payloads); opened = h.opened },
      λ rs ys is. is ∙ ap (λ c. finish s.opened (going_on c (without_repeats_of q rs)) ++ bytes_of (cuts_of (without_repeats_of q rs))) (sym counters)
          ∙ ap (λ ws. finish s.opened (going_on a.counter ws) ++ bytes_of (cuts_of ws)) (sym (skipped rs)),
    ) where
      skipped : (rs : List Received) → without_repeats_of a (q ∷ rs) ≡ without_repeats_of q rs
      skipped rs = rw r refl

-- the state after a packet that is taken, where t tells whether its counter follows
abbrev pub taken_state : Receiving → Counts → Bool → Received → Receiving × List Bytes
taken_state s k t q = (
  record { pid = s.pid; last = Some (q.counter, q.payload); opened = (act (if not t then None else s.opened) k q).opened; counts = (act (if not t then None else s.opened) k q).counts },
  (act (if not t then None else s.opened) k q).out,
)

takes_it : (s : Receiving) (a q : Received) (k : Counts) (t : Bool) → IsLast s a → ((a.counter == q.counter) && bytes_eq a.payload q.payload) ≡ false → (q.counter == (a.counter + 1) % 16) ≡ t → Goes s a (taken_state s k t q) (q ∷ [])
takes_it s a q k t h r is_t = (
  q,
  record { last = refl; opened = still_open s.opened k q h.opened t },
  λ rs ys is. taken s.opened k a.counter q (without_repeats_of q rs) h.opened t is_t ys is
      ∙ ap (λ ws. finish s.opened (going_on a.counter ws) ++ bytes_of (cuts_of ws)) (sym (stays rs)),
) where
  stays : (rs : List Received) → without_repeats_of a (q ∷ rs) ≡ q ∷ without_repeats_of q rs
  stays rs = rw r refl

not_true : (b : Bool) → not b ≡ true → b ≡ false
not_true true e = cc
not_true false e = refl

not_false : (b : Bool) → not b ≡ false → b ≡ true
not_false true e = refl
not_false false e = cc

-- what a parsed packet does, by the outcomes of the tests on it: the PID, no payload, a repeat, a jump
abbrev pub fed_by : Receiving → Fields → Bool → Bool → Bool → Bool → Receiving × List Bytes
fed_by s f p l d j =
    if not p then with_counts s (record s.counts { other_pid = up s.counts.other_pid })
    else (if l then with_counts s (record s.counts { no_payload = up s.counts.no_payload })
    else (if d then with_counts s (record s.counts { duplicates = up s.counts.duplicates })
    else (let opened = if j then None else s.opened in
    let c = if j then record s.counts { jumps = up s.counts.jumps } else s.counts in
    keeps s f (if f.start then starts opened f.payload c else goes_on opened f.payload c))))

abbrev pub kept_by : ℕ → Fields → Bool → Bool → Option Received
kept_by n f p l = if p && not l then Some (received_as n f) else None

by_tests : (s : Receiving) (a : Received) (n : ℕ) (f : Fields) (h : IsLast s a) (p l d j : Bool) → ((a.counter == (received_as n f).counter) && bytes_eq a.payload (received_as n f).payload) ≡ d → not (f.counter == (a.counter + 1) % 16) ≡ j
    → Goes s a (fed_by (one_more s) f p l d j) (cons_option (kept_by n f p l) [])
by_tests s a n f h false l d j r i = quiet s a _ h
by_tests s a n f h true true d j r i = quiet s a _ h
by_tests s a n f h true false true j r i = repeated s a (received_as n f) _ h r
by_tests s a n f h true false false true r i = takes_it s a (received_as n f) _ false h r (not_true (f.counter == (a.counter + 1) % 16) i)
by_tests s a n f h true false false false r i = takes_it s a (received_as n f) _ true h r (not_false (f.counter == (a.counter + 1) % 16) i)

one_parsed : (s : Receiving) (a : Received) (n : ℕ) (r : Result Fields PacketFault) → IsLast s a → Goes s a (after_packet (one_more s) r) (cons_option (kept_of s.pid n r) [])
one_parsed s a n (Err fault) h = quiet s a _ h
one_parsed s a n (Ok f) h =
    by_tests s a n f h (f.pid == s.pid) (length f.payload == 0) (is_last f.counter f.payload s.last) (jumps_from f.counter s.last)
    (sym (ap (is_last f.counter f.payload) h.last)) (sym (ap (jumps_from f.counter) h.last))

pid_by : (s : Receiving) (f : Fields) (p l d j : Bool) → (fed_by s f p l d j).0.pid ≡ s.pid
pid_by s f false l d j = refl
pid_by s f true true d j = refl
pid_by s f true false true j = refl
pid_by s f true false false j = refl

pub pid_fed : (s : Receiving) (r : Result Fields PacketFault) → (after_packet s r).0.pid ≡ s.pid
pid_fed s (Err fault) = refl
pid_fed s (Ok f) = pid_by s f (f.pid == s.pid) (length f.payload == 0) (is_last f.counter f.payload s.last) (jumps_from f.counter s.last)

onto_rest : (o : Option Received) (rs : List Received) → cons_option o [] ++ rs ≡ cons_option o rs
onto_rest None rs = refl
onto_rest (Some q) rs = refl

-- from any state that has had a packet, what comes out is what is to come
pub outputs_are : (s : Receiving) (a : Received) (n : ℕ) (xs : List Bytes) → IsLast s a → outputs s xs ≡ to_come s a (received_from s.pid n xs)
outputs_are s a n [] h = rw (finish_nothing s.opened h.opened) refl
outputs_are s a n (x ∷ xs) h =
    let g = one_parsed s a n (parse_packet x) h in
    let rest = received_from s.pid (n + 1) xs in
    let next = outputs_are (step s x).0 g.0 (n + 1) xs g.1 in
    let same : outputs (step s x).0 xs ≡ to_come (step s x).0 g.0 rest = next ∙ ap (λ i. to_come (step s x).0 g.0 (received_from i (n + 1) xs)) (pid_fed (one_more s) (parse_packet x)) in
    g.2 rest (outputs (step s x).0 xs) same ∙ ap (to_come s a) (onto_rest (kept_of s.pid n (parse_packet x)) rest)

-- a state that has had no packet yet
pub record IsStart (s : Receiving) : Type 0 where
  pub last : s.last ≡ None
  pub opened : s.opened ≡ None

abbrev pub all_cuts : List Received → List Bytes
all_cuts rs = bytes_of (cuts_of (without_repeats rs))

-- either nothing is kept yet, or the packet is the first that is
abbrev pub Begins : Receiving → ℕ → List Bytes → Receiving × List Bytes → Option Received → Type 0
Begins s n xs next None = IsStart next.0 × (next.1 ≡ [])
Begins s n xs next (Some q) = IsLast next.0 q × ((rs : List Received) (ys : List Bytes) → ys ≡ to_come next.0 q rs → next.1 ++ ys ≡ all_cuts (q ∷ rs))

begins_by : (s : Receiving) (n : ℕ) (xs : List Bytes) (f : Fields) → IsStart s → (p l d j : Bool) → d ≡ false → j ≡ false → Begins s n xs (fed_by (one_more s) f p l d j) (kept_by n f p l)
begins_by s n xs f h false l d j e g = (record { last = h.last; opened = h.opened }, refl)
begins_by s n xs f h true true d j e g = (record { last = h.last; opened = h.opened }, refl)
begins_by s n xs f h true false true j e g = absurd (true≢false e)
begins_by s n xs f h true false false true e g = absurd (true≢false g)
begins_by s n xs f h true false false false e g = first s.opened h.opened where
  q : Received
  q = received_as n f

  k : Counts
  k = (one_more s).counts

  Claim : Option Bytes → Type 0
  Claim o = IsLast (keeps (one_more s) f (act o k q)).0 q × ((rs : List Received) (ys : List Bytes) → ys ≡ to_come (keeps (one_more s) f (act o k q)).0 q rs → (act o k q).out ++ ys ≡ all_cuts (q ∷ rs))

  none : Claim None
  none = (
    record { last = refl; opened = (acts None q [] k tt).1 },
    λ rs ys is. let later = without_repeats_of q rs in let more = going_on q.counter later in
        rw (is, map-append) (onto (act None k q).out (finish (act None k q).opened more) [] (bytes_of (cuts_at q later)) (bytes_of (cuts_of later)) (acts None q more k tt).0),
  )

  first : (o : Option Bytes) → o ≡ None → Claim o
  first o is = subst Claim (sym is) none

begins : (s : Receiving) (n : ℕ) (xs : List Bytes) (r : Result Fields PacketFault) → IsStart s → Begins s n xs (after_packet (one_more s) r) (kept_of s.pid n r)
begins s n xs (Err fault) h = (record { last = h.last; opened = h.opened }, refl)
begins s n xs (Ok f) h =
    begins_by s n xs f h (f.pid == s.pid) (length f.payload == 0) (is_last f.counter f.payload s.last) (jumps_from f.counter s.last)
    (ap (is_last f.counter f.payload) h.last) (ap (jumps_from f.counter) h.last)

pub outputs_from_start : (s : Receiving) (n : ℕ) (xs : List Bytes) → IsStart s → outputs s xs ≡ all_cuts (received_from s.pid n xs)
outputs_from_start s n [] h = refl
outputs_from_start s n (x ∷ xs) h = go (λ i. outputs_from_start (step s x).0 (n + 1) xs i) (kept_of s.pid n (parse_packet x)) (begins s n xs (parse_packet x) h) where
  rest : List Received
  rest = received_from s.pid (n + 1) xs

  pids : (step s x).0.pid ≡ s.pid
  pids = pid_fed (one_more s) (parse_packet x)

  go : (IsStart (step s x).0 → outputs (step s x).0 xs ≡ all_cuts (received_from (step s x).0.pid (n + 1) xs)) → (o : Option Received) → Begins s n xs (step s x) o
      → (step s x).1 ++ outputs (step s x).0 xs ≡ all_cuts (cons_option o rest)
  go next None b = ap (λ ys. ys ++ outputs (step s x).0 xs) b.1 ∙ next b.0 ∙ ap (λ i. all_cuts (received_from i (n + 1) xs)) pids
  go next (Some q) b = b.1 rest (outputs (step s x).0 xs) (outputs_are (step s x).0 q (n + 1) xs b.0 ∙ ap (λ i. to_come (step s x).0 q (received_from i (n + 1) xs)) pids)

-- all that the rules give are the candidates
pub outputs_are_candidates : (pid : ℕ) (packets : List Bytes) → outputs (at_start pid) packets ≡ candidates pid packets
outputs_are_candidates pid packets = outputs_from_start (at_start pid) 0 packets (record { last = refl; opened = refl })

outputs_append : (s : Receiving) (xs : List Bytes) (x : Bytes) → outputs s (xs ++ x ∷ []) ≡ outputs s xs ++ (step (after_all s xs) x).1
outputs_append s [] x = append-nil (step s x).1
outputs_append s (y ∷ ys) x = ap (λ zs. (step s y).1 ++ zs) (outputs_append (step s y).0 ys x) ∙ sym (append_assoc (step s y).1 (outputs (step s y).0 ys) (step (after_all (step s y).0 ys) x).1)

-- one more packet adds what the rules give at it
pub candidates_append : (s : Receiving) (packets : List Bytes) (x : Bytes) → s ≡ after_all (at_start s.pid) packets → candidates s.pid (packets ++ x ∷ []) ≡ candidates s.pid packets ++ (step s x).1
candidates_append s packets x h =
    sym (outputs_are_candidates s.pid (packets ++ x ∷ [])) ∙ outputs_append (at_start s.pid) packets x
    ∙ ap (λ out. out ++ (step (after_all (at_start s.pid) packets) x).1) (outputs_are_candidates s.pid packets)
    ∙ ap (λ (t : Receiving). candidates s.pid packets ++ (step t x).1) (sym h)

outputs-append : (s : Receiving) (xs ys : List Bytes) → outputs s (xs ++ ys) ≡ outputs s xs ++ outputs (after_all s xs) ys
outputs-append s [] ys = refl
outputs-append s (x ∷ xs) ys =
    ap (λ zs. (step s x).1 ++ zs) (outputs-append (step s x).0 xs ys) ∙ sym (append_assoc (step s x).1 (outputs (step s x).0 xs) (outputs (after_all (step s x).0 xs) ys))

-- more packets leave the candidates so far
pub candidates-grow : (pid : ℕ) (packets more : List Bytes) → (rest : List Bytes) × (candidates pid (packets ++ more) ≡ candidates pid packets ++ rest)
candidates-grow pid packets more =
    let rest = outputs (after_all (at_start pid) packets) more in (
      rest,
      sym (outputs_are_candidates pid (packets ++ more)) ∙ outputs-append (at_start pid) packets more ∙ ap (λ out. out ++ rest) (outputs_are_candidates pid packets),
    )
