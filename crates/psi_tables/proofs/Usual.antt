-- What is found where the tables are as usual.
use Rattle.std.proofs.Common.{ℕ, zero, suc, ◌≡◌, ◌+◌, ◌-◌, ◌≤◌, Bool, true, false, cond, ◌==◌, ◌&&◌, List, [], ◌∷◌, ◌++◌, take, drop, Option, Some, None, option_and_then, refl, sym, ap, subst, ◌∙◌, arith, take-append-drop}
use Rattle.std.proofs.Math.Seq.{drop-cons}
use Rattle.std.specs.Prelude.{slice_get}
use Rattle.std.specs.List.{All, Contains, filter, filter_map, flat_map, find, last_or, range_with_len, cons_option}
use Rattle.std.specs.Option.{option_map}
use Rattle.std.proofs.lemmas.Bool.{eq-eqb, ne_eqb, eqb-true, and_from}
use Rattle.std.proofs.lemmas.List.{append-nil}
use Rattle.std.proofs.lemmas.List.Elements.{All-nil, All-cons, All-head, All-tail, All-weaker, All-contains, filter-append}
use Rattle.std.proofs.lemmas.Option.{same_Some}
use Rattle.section_stream.specs.Cuts.{Bytes}
use Rattle.psi_tables.specs.declared.tables.PatLine.{PatLine}
use Rattle.psi_tables.specs.Pats.{PatFields}
use Rattle.psi_tables.specs.Pmts.{PmtFields}
use Rattle.psi_tables.specs.Finding.{pats_in, pmts_in, pmt_among, pmt_of_line, section_among, is_section, last_where, lines_in_section, lines_of_sections, is_program, names, followed_in, first_named, at_or_nowhere, found_with, found_in}
use Rattle.psi_tables.specs.Laws.{lines_with, MaybeIs, HasOne, IsUsual, NowhereElse, Came, OneSectionListsItsLines, IsNowhereElse, IsFoundOnceItCame}
use Rattle.psi_tables.proofs.Searching.{lines_at, lines_split, first_then, first_kept}

no_some : {A B : Type 0} (x : A) → ◌≡◌ {A = Option A} None (Some x) → B
no_some x e = absurd cc

-- ---- the last that passes a test

last_passes : {A : Type 0} (test : A → Bool) (o q : Option A) (xs : List A) (p : A) → test p ≡ true → (o ≡ Some p → q ≡ Some p) → last_or o xs ≡ Some p → last_or q (filter test xs) ≡ Some p
last_passes test o q [] p t f e = f e
last_passes {A} test o q (x ∷ xs) p t f e = go (test x) refl (λ r g. last_passes test (Some x) r xs p t g e) where
  go : (b : Bool) → test x ≡ b → ((r : Option A) → (Some x ≡ Some p → r ≡ Some p) → last_or r (filter test xs) ≡ Some p) → last_or q (cond b (x ∷ filter test xs) (filter test xs)) ≡ Some p
  go true h more = more (Some x) (λ s. s)
  go false h more = more q (λ s. absurd (cc (h, ap test (same_Some x p s), t)))

none_passes : {A : Type 0} (test : A → Bool) (xs : List A) → All (λ x. test x ≡ false) xs → filter test xs ≡ []
none_passes test [] h = refl
none_passes test (x ∷ xs) h = rw (All-head (λ y. test y ≡ false) x xs h) (none_passes test xs (All-tail (λ y. test y ≡ false) x xs h))

-- what holds of each holds of the last that passes, and it passes
last_holds : {A : Type 0} (test : A → Bool) (P : A → Type 0) (o : Option A) (xs : List A) (m : A) → ((x : A) → o ≡ Some x → P x × (test x ≡ true)) → All P xs → last_or o (filter test xs) ≡ Some m
    → P m × (test m ≡ true)
last_holds test P o [] m f h e = f m e
last_holds {A} test P o (x ∷ xs) m f h e = go (test x) refl (λ r g s. last_holds test P r xs m g more s) e where
  more : All P xs
  more = All-tail P x xs h

  this : test x ≡ true → (y : A) → Some x ≡ Some y → P y × (test y ≡ true)
  this t y s = subst (λ (z : A). P z × (test z ≡ true)) (same_Some x y s) (All-head P x xs h, t)

  go : (b : Bool) → test x ≡ b → ((r : Option A) → ((y : A) → r ≡ Some y → P y × (test y ≡ true)) → last_or r (filter test xs) ≡ Some m → P m × (test m ≡ true))
      → last_or o (cond b (x ∷ filter test xs) (filter test xs)) ≡ Some m → P m × (test m ≡ true)
  go true t again g = again (Some x) (this t) g
  go false t again g = again o f g

last_is : {A : Type 0} (P : A → Type 0) (o : Option A) (xs : List A) (m : A) → ((x : A) → o ≡ Some x → P x) → All P xs → last_or o xs ≡ Some m → P m
last_is P o [] m f h e = f m e
last_is {A} P o (x ∷ xs) m f h e = last_is P (Some x) xs m (λ y s. subst P (same_Some x y s) (All-head P x xs h)) (All-tail P x xs h) e

some_last : {A : Type 0} (x : A) (xs : List A) → (m : A) × (last_or (Some x) xs ≡ Some m)
some_last x [] = (x, refl)
some_last x (y ∷ ys) = some_last y ys

last_append : {A : Type 0} (o : Option A) (xs : List A) (y : A) (ys : List A) → last_or o (xs ++ y ∷ ys) ≡ last_or (Some y) ys
last_append o [] y ys = refl
last_append o (x ∷ xs) y ys = last_append (Some x) xs y ys

-- where an element passes, one is the last
some_passes : {A : Type 0} (test : A → Bool) (front back : List A) (x : A) → test x ≡ true → (m : A) × (last_where test (front ++ x ∷ back) ≡ Some m)
some_passes {A} test front back x t =
    let last = some_last x (filter test back) in
    let here : filter test (x ∷ back) ≡ x ∷ filter test back = rw t refl in
    (last.0, ap (λ (zs : List A). last_or None zs) (filter-append test front (x ∷ back) ∙ ap (λ (zs : List A). filter test front ++ zs) here) ∙ last_append None (filter test front) x (filter test back) ∙ last.1)

all_front : {A : Type 0} (P : A → Type 0) (xs ys : List A) → All P (xs ++ ys) → All P xs
all_front P [] ys h = All-nil P
all_front P (x ∷ xs) ys h = All-cons P x xs (All-head P x (xs ++ ys) h) (all_front P xs ys (All-tail P x (xs ++ ys) h))

-- an element splits a list
pub split_at : {A : Type 0} (xs : List A) (x : A) → Contains xs x → (front : List A) × (back : List A) × (xs ≡ front ++ x ∷ back)
split_at {A} xs x h = (
  take h.0 xs,
  drop (suc h.0) xs,
  sym (take-append-drop h.0 xs) ∙ ap (λ (zs : List A). take h.0 xs ++ zs) (drop-cons xs h.0 x h.1 ∙ ap (λ (z : A). z ∷ drop (suc h.0) xs) h.2),
)

-- ---- a PAT of one section

and_off : (a b : Bool) → b ≡ false → (a && b) ≡ false
and_off true b e = e
and_off false b e = refl

nothing_behind : (section : ℕ → Option PatFields) → ((n : ℕ) → 1 ≤ n → section n ≡ None) → (a n : ℕ) → 1 ≤ a → flat_map (lines_at section) (range_with_len a n) ≡ []
nothing_behind section none a zero le = refl
nothing_behind section none a (suc n) le =
    ap (λ (o : Option PatFields). lines_in_section o ++ flat_map (lines_at section) (range_with_len (a + 1) n)) (none a le) ∙ nothing_behind section none (a + 1) n (omega arith)

first_section : (section : ℕ → Option PatFields) → ((n : ℕ) → 1 ≤ n → section n ≡ None) → lines_of_sections section 256 ≡ lines_in_section (section 0)
first_section section none =
    lines_split section 1 (omega arith) ∙ ap (λ (ls : List PatLine). lines_of_sections section 1 ++ ls) (nothing_behind section none (0 + 1) (256 - 1) (omega arith))
    ∙ append-nil (lines_of_sections section 1) ∙ append-nil (lines_in_section (section 0))

zero_too : (pats : List PatFields) (p : PatFields) → All (λ (r : PatFields). r.number ≡ 0) pats → last_or None pats ≡ Some p → p.number ≡ 0
zero_too pats p zeros last = last_is (λ (r : PatFields). r.number ≡ 0) None pats p (λ x s. no_some x s) zeros last

pub one_section : OneSectionListsItsLines
one_section packets p zeros last =
    let pats = pats_in packets in
    let here : section_among pats p.version 0 ≡ Some p =
    last_passes (is_section p.version 0) None None pats p (and_from (p.version == p.version) (p.number == 0) (eq-eqb p.version p.version refl) (eq-eqb p.number 0 (zero_too pats p zeros last))) (λ e. e) last in
    let none : (n : ℕ) → 1 ≤ n → section_among pats p.version n ≡ None = λ n le.
    ap (λ (ps : List PatFields). last_or None ps) (none_passes (is_section p.version n) pats
    (All-weaker (λ (r : PatFields). r.number ≡ 0) (λ (r : PatFields). is_section p.version n r ≡ false) (λ r e. and_off (r.version == p.version) (r.number == n) (ne_eqb r.number n (λ s. omega (arith, s, e, le)))) pats zeros)) in
    ap (λ (o : Option PatFields). lines_with (option_map (λ (r : PatFields). r.version) o) (section_among pats)) last
    ∙ first_section (section_among pats p.version) none ∙ ap lines_in_section here

-- ---- one map table for each program

abbrev named_of : ℕ → List Bytes → PatLine → Option ℕ
named_of carousel packets l = option_and_then (names carousel) (pmt_of_line packets l)

-- what a line's map table names
maybe_named : (carousel : ℕ) (packets : List Bytes) (table : ℕ → PmtFields) (q : ℕ) (l : PatLine) → HasOne carousel packets table q l → MaybeIs q (named_of carousel packets l)
maybe_named carousel packets table q l h = go (find (λ (x : ℕ × ℕ). x.0 == l.pid) (followed_in packets)) refl where
  among : (m : Option PmtFields) (pmts : List PmtFields) → pmt_among l.program pmts ≡ m → All (λ (r : PmtFields). r.program ≡ l.program → r ≡ table l.program) pmts → MaybeIs q (option_and_then (names carousel) m)
  among None pmts e all = tt
  among (Some m) pmts e all =
      let last = last_holds (λ (r : PmtFields). r.program == l.program) (λ (r : PmtFields). r.program ≡ l.program → r ≡ table l.program) None pmts m (λ x s. no_some x s) all e in
      subst (λ (r : PmtFields). MaybeIs q (names carousel r)) (sym (last.0 (eqb-true m.program l.program last.1))) h.named

  go : (o : Option (ℕ × ℕ)) → find (λ (x : ℕ × ℕ). x.0 == l.pid) (followed_in packets) ≡ o
      → MaybeIs q (option_and_then (names carousel) (option_and_then (λ (x : ℕ × ℕ). pmt_among l.program (pmts_in l.pid (drop x.1 packets))) o))
  go None e = tt
  go (Some x) e =
      let pmts = pmts_in l.pid (drop x.1 packets) in
      among (pmt_among l.program pmts) pmts refl (h.same x.1 (ap (λ (o : Option (ℕ × ℕ)). option_map (λ (y : ℕ × ℕ). y.1) o) e))

-- the first that lines name
maybe_first : (q : ℕ) (named : PatLine → Option ℕ) (ls : List PatLine) → All (λ (l : PatLine). is_program l ≡ true → MaybeIs q (named l)) ls → MaybeIs q (first_named named ls)
maybe_first q named [] h = tt
maybe_first q named (l ∷ ls) h = go (is_program l) refl (maybe_first q named ls (All-tail (λ (k : PatLine). is_program k ≡ true → MaybeIs q (named k)) l ls h)) where
  this : (o : Option ℕ) → MaybeIs q o → MaybeIs q (first_named named ls) → MaybeIs q (slice_get (cons_option o (filter_map named (filter is_program ls))) 0)
  this None m later = later
  this (Some r) m later = m

  go : (b : Bool) → is_program l ≡ b → MaybeIs q (first_named named ls) → MaybeIs q (slice_get (filter_map named (cond b (l ∷ filter is_program ls) (filter is_program ls))) 0)
  go true t later = this (named l) (All-head (λ (k : PatLine). is_program k ≡ true → MaybeIs q (named k)) l ls h t) later
  go false t later = later

maybe_here : (carousel : ℕ) (packets : List Bytes) (p : PatFields) (table : ℕ → PmtFields) (q : ℕ) → IsUsual carousel packets p table q → MaybeIs q (first_named (named_of carousel packets) p.lines)
maybe_here carousel packets p table q u =
    maybe_first q (named_of carousel packets) p.lines
    (All-weaker (λ (l : PatLine). is_program l ≡ true → HasOne carousel packets table q l) (λ (l : PatLine). is_program l ≡ true → MaybeIs q (named_of carousel packets l)) (λ l h t. maybe_named carousel packets table q l (h t)) p.lines u.lines)

-- the answer, where a PAT came
found_first : (carousel : ℕ) (packets : List Bytes) (p : PatFields) (table : ℕ → PmtFields) (q : ℕ) → IsUsual carousel packets p table q → last_or None (pats_in packets) ≡ Some p
    → found_in carousel packets ≡ at_or_nowhere (first_named (named_of carousel packets) p.lines)
found_first carousel packets p table q u last =
    let pats = pats_in packets in
    let named = named_of carousel packets in
    let zeros : All (λ (r : PatFields). r.number ≡ 0) pats = All-weaker (λ (r : PatFields). r ≡ p) (λ (r : PatFields). r.number ≡ 0) (λ r e. ap (λ (x : PatFields). x.number) e ∙ u.number) pats u.pats in
    let lines : lines_of_sections (section_among pats p.version) 256 ≡ p.lines =
    ap (λ (o : Option PatFields). lines_with (option_map (λ (r : PatFields). r.version) o) (section_among pats)) (sym last) ∙ one_section packets p zeros last in
    ap (λ (o : Option PatFields). found_with (option_map (λ (r : PatFields). r.version) o) (section_among pats) named) last ∙ ap (λ (ls : List PatLine). at_or_nowhere (first_named named ls)) lines

pub nowhere_else : IsNowhereElse
nowhere_else carousel packets p table q u = go (last_or None (pats_in packets)) refl where
  first : (o : Option ℕ) → MaybeIs q o → NowhereElse q (at_or_nowhere o)
  first None m = tt
  first (Some r) m = m

  go : (o : Option PatFields) → last_or None (pats_in packets) ≡ o → NowhereElse q (found_in carousel packets)
  go None e = subst (NowhereElse q) (sym (ap (λ (o : Option PatFields). found_with (option_map (λ (r : PatFields). r.version) o) (section_among (pats_in packets)) (named_of carousel packets)) e)) tt
  go (Some r) e =
      let same : r ≡ p = last_is (λ (x : PatFields). x ≡ p) None (pats_in packets) r (λ x s. no_some x s) u.pats e in
      let last : last_or None (pats_in packets) ≡ Some p = e ∙ ap (λ (x : PatFields). Some x) same in
      subst (NowhereElse q) (sym (found_first carousel packets p table q u last)) (first (first_named (named_of carousel packets) p.lines) (maybe_here carousel packets p table q u))

-- the map table that came is the line's
named_once_came : (carousel : ℕ) (packets : List Bytes) (table : ℕ → PmtFields) (q : ℕ) (l : PatLine) → HasOne carousel packets table q l → names carousel (table l.program) ≡ Some q → Came packets table l
    → named_of carousel packets l ≡ Some q
named_once_came carousel packets table q l h named came = go (find (λ (x : ℕ × ℕ). x.0 == l.pid) (followed_in packets)) came.followed where
  pmts : List PmtFields
  pmts = pmts_in l.pid (drop came.since packets)

  its : PmtFields → Bool
  its r = r.program == l.program

  among : pmt_among l.program pmts ≡ Some (table l.program)
  among =
      let split = split_at pmts (table l.program) came.among in
      let some = some_passes its split.0 split.1 (table l.program) (eq-eqb (table l.program).program l.program h.its) in
      let last : last_where its pmts ≡ Some some.0 = ap (last_where its) split.2 ∙ some.1 in
      let holds = last_holds its (λ (r : PmtFields). r.program ≡ l.program → r ≡ table l.program) None pmts some.0 (λ x s. no_some x s) (h.same came.since came.followed) last in
      last ∙ ap (λ (r : PmtFields). Some r) (holds.0 (eqb-true some.0.program l.program holds.1))

  go : (o : Option (ℕ × ℕ)) → option_map (λ (x : ℕ × ℕ). x.1) o ≡ Some came.since → option_and_then (names carousel) (option_and_then (λ (x : ℕ × ℕ). pmt_among l.program (pmts_in l.pid (drop x.1 packets))) o) ≡ Some q
  go None e = cc
  go (Some x) e =
      ap (λ (n : ℕ). option_and_then (names carousel) (pmt_among l.program (pmts_in l.pid (drop n packets)))) (same_Some x.1 came.since e)
      ∙ ap (option_and_then (names carousel)) among ∙ named

first_is : (q : ℕ) (named : PatLine → Option ℕ) (front back : List PatLine) (l : PatLine) → MaybeIs q (first_named named front) → is_program l ≡ true → named l ≡ Some q → first_named named (front ++ l ∷ back) ≡ Some q
first_is q named front back l m t is = go (first_named named front) refl m where
  here : first_named named (l ∷ back) ≡ Some q
  here = rw (t, is) refl

  go : (o : Option ℕ) → first_named named front ≡ o → MaybeIs q o → first_named named (front ++ l ∷ back) ≡ Some q
  go None e n = first_then named front (l ∷ back) e ∙ here
  go (Some r) e n = first_kept named front (l ∷ back) r e ∙ ap (λ (x : ℕ). Some x) n

pub found_once_came : IsFoundOnceItCame
found_once_came carousel packets p table q l u came_pat listed t named came =
    let pats = split_at (pats_in packets) p came_pat in
    let some = some_last p pats.1 in
    let at_all : last_or None (pats_in packets) ≡ Some some.0 = ap (λ (ps : List PatFields). last_or None ps) pats.2 ∙ last_append None pats.0 p pats.1 ∙ some.1 in
    let last : last_or None (pats_in packets) ≡ Some p = at_all ∙ ap (λ (r : PatFields). Some r) (last_is (λ (r : PatFields). r ≡ p) None (pats_in packets) some.0 (λ x s. no_some x s) u.pats at_all) in
    let lines = split_at p.lines l listed in
    let weaker = All-weaker (λ (k : PatLine). is_program k ≡ true → HasOne carousel packets table q k) (λ (k : PatLine). is_program k ≡ true → MaybeIs q (named_of carousel packets k)) (λ k h s. maybe_named carousel packets table q k (h s)) p.lines u.lines in
    let front = all_front (λ (k : PatLine). is_program k ≡ true → MaybeIs q (named_of carousel packets k)) lines.0 (l ∷ lines.1) (subst (All (λ (k : PatLine). is_program k ≡ true → MaybeIs q (named_of carousel packets k))) lines.2 weaker) in
    let its = All-contains (λ (k : PatLine). is_program k ≡ true → HasOne carousel packets table q k) p.lines l u.lines listed t in
    found_first carousel packets p table q u last ∙ ap (λ (ls : List PatLine). at_or_nowhere (first_named (named_of carousel packets) ls)) lines.2
    ∙ ap at_or_nowhere (first_is q (named_of carousel packets) lines.0 lines.1 l (maybe_first q (named_of carousel packets) lines.0 front) t (named_once_came carousel packets table q l its named came))
