-- From when on the PIDs of a PAT of one section are followed.
use Rattle.std.proofs.Common.{ℕ, zero, suc, ◌≡◌, ◌≤◌, Bool, true, false, cond, ◌==◌, ◌||◌, List, [], ◌∷◌, ◌++◌, length, map, take, drop, Option, Some, None, refl, sym, ap, subst, ◌∙◌, append_assoc, arith}
use Rattle.std.specs.Prelude.{slice_get}
use Rattle.std.specs.List.{All, Contains, filter, filter_map, flat_map, find, cons_option}
use Rattle.std.specs.Option.{option_map}
use Rattle.std.proofs.lemmas.Bool.{eq-eqb}
use Rattle.std.proofs.lemmas.List.{append-nil, map-append, drop_at, take_all}
use Rattle.std.proofs.lemmas.List.Elements.{All-nil, All-cons, All-head, All-tail, All-weaker, All-contains, All-append}
use Rattle.section_stream.specs.Cuts.{Bytes, candidates}
use Rattle.section_stream.specs.Laws.{CandidatesGrow}
use Rattle.psi_tables.specs.declared.tables.PatLine.{PatLine}
use Rattle.psi_tables.specs.Pats.{PatFields}
use Rattle.psi_tables.specs.Finding.{pat_in, lines_in_section, completed_by, arrivals, arrivals_of, is_program, listed_pids, first_of_each, is_in, choose}
use Rattle.psi_tables.specs.Laws.{EachIsFollowed}
use Rattle.psi_tables.proofs.Following.{or_shift, pids, unless, first_now}

-- ---- the arrivals are the candidates

take_one_more : {A : Type 0} (n : ℕ) (xs : List A) → take (suc n) xs ≡ take n xs ++ take 1 (drop n xs)
take_one_more zero xs = refl
take_one_more (suc n) [] = refl
take_one_more {A} (suc n) (x ∷ xs) = ap (λ (zs : List A). x ∷ zs) (take_one_more n xs)

abbrev sections_of : List (Bytes × ℕ) → List Bytes
sections_of came = map (λ (a : Bytes × ℕ). a.0) came

its_sections : (k : ℕ) (cs : List Bytes) → sections_of (map (λ c. (c, k)) cs) ≡ cs
its_sections k [] = refl
its_sections k (c ∷ cs) = ap (λ (ds : List Bytes). c ∷ ds) (its_sections k cs)

arrived_of : CandidatesGrow → (pid : ℕ) (packets : List Bytes) (n : ℕ) → sections_of (arrivals_of pid packets n) ≡ candidates pid (take n packets)
arrived_of grow pid packets zero = refl
arrived_of grow pid packets (suc n) =
    let before = candidates pid (take n packets) in
    let more = grow pid (take n packets) (take 1 (drop n packets)) in
    let after : candidates pid (take (suc n) packets) ≡ before ++ more.0 = ap (candidates pid) (take_one_more n packets) ∙ more.1 in
    let new : completed_by pid packets n ≡ more.0 = ap (drop (length before)) after ∙ drop_at before more.0 (length before) refl in
    map-append (λ (a : Bytes × ℕ). a.0) (arrivals_of pid packets n) (map (λ c. (c, suc n)) (completed_by pid packets n))
    ∙ ap (λ (cs : List Bytes). cs ++ sections_of (map (λ c. (c, suc n)) (completed_by pid packets n))) (arrived_of grow pid packets n)
    ∙ ap (λ (cs : List Bytes). before ++ cs) (its_sections (suc n) (completed_by pid packets n) ∙ new) ∙ sym after

arrived : CandidatesGrow → (pid : ℕ) (packets : List Bytes) → sections_of (arrivals pid packets) ≡ candidates pid packets
arrived grow pid packets = arrived_of grow pid packets (length packets) ∙ ap (candidates pid) (take_all (length packets) packets (omega arith))

-- ---- the first of each PID

abbrev Pairs : Type 0
Pairs = List (ℕ × ℕ)

or_true_left : (a b : Bool) → a ≡ true → (a || b) ≡ true
or_true_left a b e = rw e refl

or_true_right : (a b : Bool) → b ≡ true → (a || b) ≡ true
or_true_right true b e = refl
or_true_right false b e = e

-- each PID is among the first ones
all_seen : (xs ys : Pairs) (seen : List ℕ) → pids ys ≡ pids xs → All (λ (y : ℕ × ℕ). (is_in y.0 seen || is_in y.0 (pids (first_of_each seen xs))) ≡ true) ys
all_seen [] [] seen e = All-nil (λ (y : ℕ × ℕ). (is_in y.0 seen || is_in y.0 (pids (first_of_each seen []))) ≡ true)
all_seen [] (y ∷ ys) seen e = absurd cc
all_seen (x ∷ xs) [] seen e = absurd cc
all_seen (x ∷ xs) (y ∷ ys) seen e = go (is_in x.0 seen) refl (all_seen xs ys seen (same_tail e)) (all_seen xs ys (x.0 ∷ seen) (same_tail e)) where
  same_tail : pids (y ∷ ys) ≡ pids (x ∷ xs) → pids ys ≡ pids xs
  same_tail f = cc

  head : y.0 ≡ x.0
  head = cc

  go : (b : Bool) → is_in x.0 seen ≡ b
      → All (λ (z : ℕ × ℕ). (is_in z.0 seen || is_in z.0 (pids (first_of_each seen xs))) ≡ true) ys
      → All (λ (z : ℕ × ℕ). (is_in z.0 (x.0 ∷ seen) || is_in z.0 (pids (first_of_each (x.0 ∷ seen) xs))) ≡ true) ys
      → All (λ (z : ℕ × ℕ). (is_in z.0 seen || is_in z.0 (pids (cond b (first_of_each seen xs) (x ∷ first_of_each (x.0 ∷ seen) xs)))) ≡ true) (y ∷ ys)
  go true t same other =
      All-cons (λ (z : ℕ × ℕ). (is_in z.0 seen || is_in z.0 (pids (first_of_each seen xs))) ≡ true) y ys
      (or_true_left (is_in y.0 seen) (is_in y.0 (pids (first_of_each seen xs))) (ap (λ (n : ℕ). is_in n seen) head ∙ t)) same
  go false t same other =
      let rest = first_of_each (x.0 ∷ seen) xs in
      All-cons (λ (z : ℕ × ℕ). (is_in z.0 seen || is_in z.0 (pids (x ∷ rest))) ≡ true) y ys
      (or_true_right (is_in y.0 seen) (is_in y.0 (pids (x ∷ rest))) (or_true_left (x.0 == y.0) (is_in y.0 (pids rest)) (eq-eqb x.0 y.0 (sym head))))
      (All-weaker (λ (z : ℕ × ℕ). (is_in z.0 (x.0 ∷ seen) || is_in z.0 (pids rest)) ≡ true) (λ (z : ℕ × ℕ). (is_in z.0 seen || is_in z.0 (pids (x ∷ rest))) ≡ true)
      (λ z g. or_shift (is_in z.0 seen) (x.0 == z.0) (is_in z.0 (pids rest)) ∙ g) ys other)

-- pairs whose PIDs are among the first ones add nothing
covered : (xs ys : Pairs) → All (λ (y : ℕ × ℕ). is_in y.0 (pids (first_of_each [] xs)) ≡ true) ys → first_of_each [] (xs ++ ys) ≡ first_of_each [] xs
covered xs [] h = ap (first_of_each []) (append-nil xs)
covered xs (y ∷ ys) h =
    let first : Pairs = first_of_each [] xs in
    let one : first_of_each [] (xs ++ y ∷ []) ≡ first =
    first_now xs y ∙ ap (λ (b : Bool). first ++ unless b y) (All-head (λ (z : ℕ × ℕ). is_in z.0 (pids first) ≡ true) y ys h) ∙ append-nil first in
    let rest = subst (λ (zs : Pairs). All (λ (z : ℕ × ℕ). is_in z.0 (pids zs) ≡ true) ys) (sym one) (All-tail (λ (z : ℕ × ℕ). is_in z.0 (pids first) ≡ true) y ys h) in
    ap (first_of_each []) (sym (append_assoc xs (y ∷ []) ys)) ∙ covered (xs ++ y ∷ []) ys rest ∙ one

same_length : (xs ys : Pairs) (seen : List ℕ) → pids ys ≡ pids xs → length (first_of_each seen ys) ≡ length (first_of_each seen xs)
same_length [] [] seen e = refl
same_length [] (y ∷ ys) seen e = absurd cc
same_length (x ∷ xs) [] seen e = absurd cc
same_length (x ∷ xs) (y ∷ ys) seen e =
    let head : y.0 ≡ x.0 = cc in
    let tail : pids ys ≡ pids xs = cc in
    ap (λ (n : ℕ). length (cond (is_in n seen) (first_of_each seen ys) (y ∷ first_of_each (n ∷ seen) ys))) head
    ∙ go (is_in x.0 seen) (same_length xs ys seen tail) (same_length xs ys (x.0 ∷ seen) tail) where
      go : (b : Bool) → length (first_of_each seen ys) ≡ length (first_of_each seen xs) → length (first_of_each (x.0 ∷ seen) ys) ≡ length (first_of_each (x.0 ∷ seen) xs)
          → length (cond b (first_of_each seen ys) (y ∷ first_of_each (x.0 ∷ seen) ys)) ≡ length (cond b (first_of_each seen xs) (x ∷ first_of_each (x.0 ∷ seen) xs))
      go true same other = same
      go false same other = ap suc other

first_all : (P : ℕ × ℕ → Type 0) (xs : Pairs) (seen : List ℕ) → All P xs → All P (first_of_each seen xs)
first_all P [] seen h = All-nil P
first_all P (x ∷ xs) seen h = go (is_in x.0 seen) (first_all P xs seen (All-tail P x xs h)) (first_all P xs (x.0 ∷ seen) (All-tail P x xs h)) where
  go : (b : Bool) → All P (first_of_each seen xs) → All P (first_of_each (x.0 ∷ seen) xs) → All P (cond b (first_of_each seen xs) (x ∷ first_of_each (x.0 ∷ seen) xs))
  go true same other = same
  go false same other = All-cons P x (first_of_each (x.0 ∷ seen) xs) (All-head P x xs h) other

found_time : (k pid : ℕ) (xs : Pairs) → All (λ (x : ℕ × ℕ). x.1 ≡ k) xs → is_in pid (pids xs) ≡ true → option_map (λ (x : ℕ × ℕ). x.1) (find (λ (x : ℕ × ℕ). x.0 == pid) xs) ≡ Some k
found_time k pid [] h e = absurd cc
found_time k pid (x ∷ xs) h e = go (x.0 == pid) e (found_time k pid xs (All-tail (λ (y : ℕ × ℕ). y.1 ≡ k) x xs h)) where
  go : (b : Bool) → (b || is_in pid (pids xs)) ≡ true → (is_in pid (pids xs) ≡ true → option_map (λ (y : ℕ × ℕ). y.1) (find (λ (y : ℕ × ℕ). y.0 == pid) xs) ≡ Some k)
      → option_map (λ (y : ℕ × ℕ). y.1) (cond b (Some x) (find (λ (y : ℕ × ℕ). y.0 == pid) xs)) ≡ Some k
  go true t later = ap (λ (n : ℕ). Some n) (All-head (λ (y : ℕ × ℕ). y.1 ≡ k) x xs h)
  go false t later = later t

-- ---- what lines list

pids_of_lines : (k j : ℕ) (ls : List PatLine) → pids (map (λ (l : PatLine). (l.pid, k)) ls) ≡ pids (map (λ (l : PatLine). (l.pid, j)) ls)
pids_of_lines k j [] = refl
pids_of_lines k j (l ∷ ls) = ap (λ (ps : List ℕ). l.pid ∷ ps) (pids_of_lines k j ls)

times_of_lines : (k : ℕ) (ls : List PatLine) → All (λ (x : ℕ × ℕ). x.1 ≡ k) (map (λ (l : PatLine). (l.pid, k)) ls)
times_of_lines k [] = All-nil (λ (x : ℕ × ℕ). x.1 ≡ k)
times_of_lines k (l ∷ ls) = All-cons (λ (x : ℕ × ℕ). x.1 ≡ k) (l.pid, k) (map (λ (m : PatLine). (m.pid, k)) ls) refl (times_of_lines k ls)

lines_each : (P : ℕ → Type 0) (k : ℕ) (ls : List PatLine) → All (λ (x : ℕ × ℕ). P x.0) (listed_pids k ls) → All (λ (l : PatLine). is_program l ≡ true → P l.pid) ls
lines_each P k [] h = All-nil (λ (l : PatLine). is_program l ≡ true → P l.pid)
lines_each P k (l ∷ ls) h = go (is_program l) refl h (lines_each P k ls) where
  go : (b : Bool) → is_program l ≡ b → All (λ (x : ℕ × ℕ). P x.0) (map (λ (m : PatLine). (m.pid, k)) (cond b (l ∷ filter is_program ls) (filter is_program ls)))
      → (All (λ (x : ℕ × ℕ). P x.0) (listed_pids k ls) → All (λ (m : PatLine). is_program m ≡ true → P m.pid) ls) → All (λ (m : PatLine). is_program m ≡ true → P m.pid) (l ∷ ls)
  go true t all later =
      All-cons (λ (m : PatLine). is_program m ≡ true → P m.pid) l ls (λ s. All-head (λ (x : ℕ × ℕ). P x.0) (l.pid, k) (listed_pids k ls) all)
      (later (All-tail (λ (x : ℕ × ℕ). P x.0) (l.pid, k) (listed_pids k ls) all))
  go false t all later = All-cons (λ (m : PatLine). is_program m ≡ true → P m.pid) l ls (λ s. absurd (cc (t, s))) (later all)

-- ---- the sections that came

abbrev listings_of : List (Bytes × ℕ) → Pairs
listings_of came = flat_map (λ a. listed_pids a.1 (lines_in_section (pat_in a.0))) came

abbrev first_of : List (Bytes × ℕ) → Option ℕ
first_of came = slice_get (filter_map (λ (a : Bytes × ℕ). option_map (λ (r : PatFields). a.1) (pat_in a.0)) came) 0

abbrev AreAll : PatFields → List PatFields → Type 0
AreAll p rs = All (λ (r : PatFields). r ≡ p) rs

-- the lines of later sections list no other PIDs
later_covered : (p : PatFields) (k : ℕ) (came : List (Bytes × ℕ)) → AreAll p (filter_map pat_in (sections_of came))
    → All (λ (y : ℕ × ℕ). is_in y.0 (pids (first_of_each [] (listed_pids k p.lines))) ≡ true) (listings_of came)
later_covered p k [] h = All-nil (λ (y : ℕ × ℕ). is_in y.0 (pids (first_of_each [] (listed_pids k p.lines))) ≡ true)
later_covered p k (a ∷ came) h = go (pat_in a.0) h (later_covered p k came) where
  go : (o : Option PatFields) → AreAll p (cons_option o (filter_map pat_in (sections_of came)))
      → (AreAll p (filter_map pat_in (sections_of came)) → All (λ (y : ℕ × ℕ). is_in y.0 (pids (first_of_each [] (listed_pids k p.lines))) ≡ true) (listings_of came))
      → All (λ (y : ℕ × ℕ). is_in y.0 (pids (first_of_each [] (listed_pids k p.lines))) ≡ true) (listed_pids a.1 (lines_in_section o) ++ listings_of came)
  go None all later = later all
  go (Some r) all later =
      let P : ℕ × ℕ → Type 0 = λ y. is_in y.0 (pids (first_of_each [] (listed_pids k p.lines))) ≡ true in
      let same : r ≡ p = All-head (λ (s : PatFields). s ≡ p) r (filter_map pat_in (sections_of came)) all in
      let here : All P (listed_pids a.1 p.lines) = all_seen (listed_pids k p.lines) (listed_pids a.1 p.lines) [] (pids_of_lines a.1 k (filter is_program p.lines)) in
      All-append P (listed_pids a.1 r.lines) (listings_of came) (subst (λ (s : PatFields). All P (listed_pids a.1 s.lines)) (sym same) here)
      (later (All-tail (λ (s : PatFields). s ≡ p) r (filter_map pat_in (sections_of came)) all))

-- the time of a PID that the first section lists
since_first : (p : PatFields) (l : PatLine) (k : ℕ) → Contains p.lines l → is_program l ≡ true
    → option_map (λ (x : ℕ × ℕ). x.1) (find (λ (x : ℕ × ℕ). x.0 == l.pid) (first_of_each [] (listed_pids k p.lines))) ≡ Some k
since_first p l k contains t =
    let first : Pairs = first_of_each [] (listed_pids k p.lines) in
    let times : All (λ (x : ℕ × ℕ). x.1 ≡ k) first = first_all (λ (x : ℕ × ℕ). x.1 ≡ k) (listed_pids k p.lines) [] (times_of_lines k (filter is_program p.lines)) in
    let each = lines_each (λ (n : ℕ). is_in n (pids first) ≡ true) k p.lines (all_seen (listed_pids k p.lines) (listed_pids k p.lines) [] refl) in
    found_time k l.pid first times (All-contains (λ (m : PatLine). is_program m ≡ true → is_in m.pid (pids first) ≡ true) p.lines l each contains t)

since : (p : PatFields) (l : PatLine) (came : List (Bytes × ℕ)) → Contains p.lines l → is_program l ≡ true → length (first_of_each [] (listed_pids 0 p.lines)) ≤ 64 → AreAll p (filter_map pat_in (sections_of came))
    → option_map (λ (x : ℕ × ℕ). x.1) (find (λ (x : ℕ × ℕ). x.0 == l.pid) (choose (listings_of came))) ≡ first_of came
since p l [] contains t few h = refl
since p l (a ∷ came) contains t few h = go (pat_in a.0) h (since p l came contains t few) where
  time : Pairs → Option ℕ
  time xs = option_map (λ (x : ℕ × ℕ). x.1) (find (λ (x : ℕ × ℕ). x.0 == l.pid) xs)

  go : (o : Option PatFields) → AreAll p (cons_option o (filter_map pat_in (sections_of came))) → (AreAll p (filter_map pat_in (sections_of came)) → time (choose (listings_of came)) ≡ first_of came)
      → time (choose (listed_pids a.1 (lines_in_section o) ++ listings_of came)) ≡ slice_get (cons_option (option_map (λ (r : PatFields). a.1) o) (filter_map (λ (b : Bytes × ℕ). option_map (λ (r : PatFields). b.1) (pat_in b.0)) came)) 0
  go None all later = later all
  go (Some r) all later =
      let same : r ≡ p = All-head (λ (s : PatFields). s ≡ p) r (filter_map pat_in (sections_of came)) all in
      let rest = All-tail (λ (s : PatFields). s ≡ p) r (filter_map pat_in (sections_of came)) all in
      let first : first_of_each [] (listed_pids a.1 p.lines ++ listings_of came) ≡ first_of_each [] (listed_pids a.1 p.lines) = covered (listed_pids a.1 p.lines) (listings_of came) (later_covered p a.1 came rest) in
      let size : length (first_of_each [] (listed_pids a.1 p.lines)) ≤ 64 =
      omega (arith, few, same_length (listed_pids 0 p.lines) (listed_pids a.1 p.lines) [] (pids_of_lines a.1 0 (filter is_program p.lines))) in
      ap (λ (s : PatFields). time (choose (listed_pids a.1 s.lines ++ listings_of came))) same
      ∙ ap (λ (xs : Pairs). time (take 64 xs)) first ∙ ap time (take_all 64 (first_of_each [] (listed_pids a.1 p.lines)) size) ∙ since_first p l a.1 contains t

pub each_is_followed : CandidatesGrow → EachIsFollowed
each_is_followed grow packets p l same contains t few =
    since p l (arrivals 0 packets) contains t few (subst (λ (ss : List Bytes). AreAll p (filter_map pat_in ss)) (sym (arrived grow 0 packets)) same)
