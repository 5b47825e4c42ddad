-- The PIDs that are followed, over one packet and over one line.
use Rattle.std.proofs.Common.{ℕ, suc, ◌≡◌, ◌+◌, ◌<◌, ◌≤◌, Bool, true, false, cond, ltb, not, ◌==◌, ◌&&◌, ◌||◌, List, [], ◌∷◌, ◌++◌, length, get_or, map, take, drop, Some, None, inl, inr, refl, sym, ap, subst, ◌∙◌, append_assoc, arith, length-append, add-zero}
use Rattle.std.proofs.Math.ListN.{set}
use Rattle.std.specs.List.{filter, list_any}
use Rattle.std.proofs.lemmas.Bool.{or_parts, eq-eqb, ne_eqb, cases_lt, lt-ltb, ltb-true}
use Rattle.std.proofs.lemmas.List.{append-nil, map-append, take_more, take_more_set, drop-set-lt, drop-drop, get_or-drop, take_all, take-append-le, length-take, drop_all}
use Rattle.std.proofs.lemmas.List.Elements.{filter-append}
use Rattle.section_stream.specs.Cuts.{Bytes}
use Rattle.section_stream.specs.Rules as streams
use Rattle.psi_tables.specs.declared.tables.PatLine.{PatLine}
use Rattle.psi_tables.specs.declared.followed.Followed.{Followed}
use Rattle.psi_tables.specs.Receiving.{is_pid, pid_of}
use Rattle.psi_tables.specs.Finding.{choose, first_of_each, is_in, is_program, listed_pids}
use Rattle.psi_tables.specs.Stands.{FollowedState, Hears, Follows, FollowsEach, view_followed, named_for}
use Rattle.psi_tables.specs.Inner.Steps.{Each, Heard, becomes_followed}
use Rattle.psi_tables.proofs.Programs.{hears_still}

-- ---- one packet

pub each_more : {A : Type 0} (R : A → A → Type 0) (xs ys : List A) (x y : A) → Each R xs ys → R x y → Each R (xs ++ x ∷ []) (ys ++ y ∷ [])
each_more R [] [] x y h r = (r, tt)
each_more R [] (b ∷ ys) x y h r = absurd h
each_more R (a ∷ xs) [] x y h r = absurd h
each_more R (a ∷ xs) (b ∷ ys) x y h r = (h.0, each_more R xs ys x y h.1 r)

each_weaker : {A : Type 0} (R S : A → A → Type 0) (xs ys : List A) → ((x y : A) → R x y → S x y) → Each R xs ys → Each S xs ys
each_weaker R S [] [] f h = tt
each_weaker R S [] (b ∷ ys) f h = absurd h
each_weaker R S (a ∷ xs) [] f h = absurd h
each_weaker R S (a ∷ xs) (b ∷ ys) f h = (f a b h.0, each_weaker R S xs ys f h.1)

heard_weaker : (carousel : ℕ) (packet : Bytes) (here after : Bool) (f g : FollowedState) → (after ≡ false → here ≡ false) → Heard carousel packet here f g → Heard carousel packet after f g
heard_weaker carousel packet here after f g e h = record { hears = h.hears; pid = h.pid; quiet = λ q. h.quiet (e q) }

-- the list after its item at i took the packet
pub record FedUpTo (carousel : ℕ) (packet : Bytes) (completed : Bool) (before now : List Followed) (i : ℕ) : Type 0 where
  pub heard : Each (Heard carousel packet completed) (map view_followed (take i before)) (map view_followed (take i now))
  pub rest : drop i now ≡ drop i before

pub fed_one : (carousel : ℕ) (packet : Bytes) (completed here after : Bool) (before now : List Followed) (i : ℕ) (d y : Followed) → i < length before → i < length now
    → (after ≡ false → completed ≡ false) → (after ≡ false → here ≡ false) → Heard carousel packet here (view_followed (get_or now i d)) (view_followed y)
    → FedUpTo carousel packet completed before now i → FedUpTo carousel packet after before (set now i y) (i + 1)
fed_one carousel packet completed here after before now i d y lt lt_now e g h f =
    let x = get_or now i d in
    let same : get_or before i d ≡ x =
    ap (λ (k : ℕ). get_or before k d) (sym (add-zero i)) ∙ sym (get_or-drop i before 0 d) ∙ ap (λ (zs : List Followed). get_or zs 0 d) (sym f.rest) ∙ get_or-drop i now 0 d ∙ ap (λ (k : ℕ). get_or now k d) (add-zero i) in
    let was : map view_followed (take (i + 1) before) ≡ map view_followed (take i before) ++ view_followed x ∷ [] =
    ap (map view_followed) (take_more before i d lt ∙ ap (λ (z : Followed). take i before ++ z ∷ []) same) ∙ map-append view_followed (take i before) (x ∷ []) in
    let becomes : map view_followed (take (i + 1) (set now i y)) ≡ map view_followed (take i now) ++ view_followed y ∷ [] =
    ap (map view_followed) (take_more_set now i y lt_now) ∙ map-append view_followed (take i now) (y ∷ []) in
    let so_far : Each (Heard carousel packet after) (map view_followed (take i before)) (map view_followed (take i now)) =
    each_weaker (Heard carousel packet completed) (Heard carousel packet after) (map view_followed (take i before)) (map view_followed (take i now)) (λ a b r. heard_weaker carousel packet completed after a b e r) f.heard in
    let more = each_more (Heard carousel packet after) (map view_followed (take i before)) (map view_followed (take i now)) (view_followed x) (view_followed y) so_far (heard_weaker carousel packet here after (view_followed x) (view_followed y) g h) in
    record {
      heard = rw (was, becomes) more;
      rest = drop-set-lt (i + 1) now i y (omega arith) ∙ sym (drop-drop 1 i now) ∙ ap (drop 1) f.rest ∙ drop-drop 1 i before;
    }

unheard : (carousel : ℕ) (packet : Bytes) (f : FollowedState) → is_pid f.pid (pid_of packet) ≡ false → Heard carousel packet false f f
unheard carousel packet f other = record { hears = hears_still carousel f packet other; pid = refl; quiet = λ q. refl }

-- a packet of no followed PID
pub none_hears : (carousel pid : ℕ) (packet : Bytes) (fs : List Followed) → pid_of packet ≡ Some pid → list_any (λ f. f.pid == pid) fs ≡ false
    → Each (Heard carousel packet false) (map view_followed fs) (map view_followed fs)
none_hears carousel pid packet [] is none = tt
none_hears carousel pid packet (f ∷ fs) is none =
    let both = or_parts (f.pid == pid) (list_any (λ g. g.pid == pid) fs) none in
    let other : is_pid f.pid (pid_of packet) ≡ false = ap (is_pid f.pid) is ∙ turned pid f.pid both.0 in
    (unheard carousel packet (view_followed f) other, none_hears carousel pid packet fs is both.1) where
      turned : (p q : ℕ) → (q == p) ≡ false → (p == q) ≡ false
      turned p q e = ne_eqb p q (λ same. absurd (cc (e, eq-eqb q p (sym same))))

-- a packet of no PID
pub nobody_hears : (carousel : ℕ) (packet : Bytes) (fs : List FollowedState) → pid_of packet ≡ None → Each (Heard carousel packet false) fs fs
nobody_hears carousel packet [] is = tt
nobody_hears carousel packet (f ∷ fs) is = (unheard carousel packet f (ap (is_pid f.pid) is), nobody_hears carousel packet fs is)

-- ---- one line

-- one more pair: it is left out where its PID was seen
pub or_shift : (a b c : Bool) → (a || (b || c)) ≡ ((b || a) || c)
or_shift true true c = refl
or_shift true false c = refl
or_shift false true c = refl
or_shift false false c = refl

abbrev pub unless : Bool → ℕ × ℕ → List (ℕ × ℕ)
unless true x = []
unless false x = x ∷ []

abbrev pub pids : List (ℕ × ℕ) → List ℕ
pids xs = map (λ x. x.0) xs

first_more : (seen : List ℕ) (xs : List (ℕ × ℕ)) (x : ℕ × ℕ) → first_of_each seen (xs ++ x ∷ []) ≡ first_of_each seen xs ++ unless (is_in x.0 (pids (first_of_each seen xs)) || is_in x.0 seen) x
first_more seen [] x = alone (is_in x.0 seen) where
  alone : (b : Bool) → cond b [] (x ∷ []) ≡ unless b x
  alone true = refl
  alone false = refl
first_more seen (y ∷ ys) x = go (is_in y.0 seen) (first_more seen ys x) (first_more (y.0 ∷ seen) ys x) where
  go : (b : Bool) → first_of_each seen (ys ++ x ∷ []) ≡ first_of_each seen ys ++ unless (is_in x.0 (pids (first_of_each seen ys)) || is_in x.0 seen) x
      → first_of_each (y.0 ∷ seen) (ys ++ x ∷ []) ≡ first_of_each (y.0 ∷ seen) ys ++ unless (is_in x.0 (pids (first_of_each (y.0 ∷ seen) ys)) || is_in x.0 (y.0 ∷ seen)) x
      → cond b (first_of_each seen (ys ++ x ∷ [])) (y ∷ first_of_each (y.0 ∷ seen) (ys ++ x ∷ []))
      ≡ cond b (first_of_each seen ys) (y ∷ first_of_each (y.0 ∷ seen) ys)
      ++ unless (is_in x.0 (pids (cond b (first_of_each seen ys) (y ∷ first_of_each (y.0 ∷ seen) ys))) || is_in x.0 seen) x
  go true same other = same
  go false same other =
      ap (λ (zs : List (ℕ × ℕ)). y ∷ zs) other
      ∙ ap (λ (b : Bool). y ∷ (first_of_each (y.0 ∷ seen) ys ++ unless b x)) (or_shift (is_in x.0 (pids (first_of_each (y.0 ∷ seen) ys))) (y.0 == x.0) (is_in x.0 seen))

or_nothing : (b : Bool) → (b || false) ≡ b
or_nothing true = refl
or_nothing false = refl

pub first_now : (xs : List (ℕ × ℕ)) (x : ℕ × ℕ) → first_of_each [] (xs ++ x ∷ []) ≡ first_of_each [] xs ++ unless (is_in x.0 (pids (first_of_each [] xs))) x
first_now xs x = first_more [] xs x ∙ ap (λ (b : Bool). first_of_each [] xs ++ unless b x) (or_nothing (is_in x.0 (pids (first_of_each [] xs))))

-- as long as there is room, all that came first are chosen
roomy : (xs : List (ℕ × ℕ)) → length (choose xs) < 64 → choose xs ≡ first_of_each [] xs
roomy xs lt = take_all 64 (first_of_each [] xs) (omega (arith, lt, length-take 64 (first_of_each [] xs)))

pub chosen_full : (xs : List (ℕ × ℕ)) (x : ℕ × ℕ) → 64 ≤ length (choose xs) → choose (xs ++ x ∷ []) ≡ choose xs
chosen_full xs x le =
    ap (take 64) (first_now xs x) ∙ take-append-le 64 (first_of_each [] xs) (unless (is_in x.0 (pids (first_of_each [] xs))) x) (omega (arith, le, length-take 64 (first_of_each [] xs)))

pub chosen_known : (xs : List (ℕ × ℕ)) (x : ℕ × ℕ) → length (choose xs) < 64 → is_in x.0 (pids (choose xs)) ≡ true → choose (xs ++ x ∷ []) ≡ choose xs
chosen_known xs x lt known =
    let here : is_in x.0 (pids (first_of_each [] xs)) ≡ true = ap (λ (zs : List (ℕ × ℕ)). is_in x.0 (pids zs)) (sym (roomy xs lt)) ∙ known in
    ap (take 64) (first_now xs x ∙ ap (λ (b : Bool). first_of_each [] xs ++ unless b x) here ∙ append-nil (first_of_each [] xs))

pub chosen_new : (xs : List (ℕ × ℕ)) (x : ℕ × ℕ) → length (choose xs) < 64 → is_in x.0 (pids (choose xs)) ≡ false → choose (xs ++ x ∷ []) ≡ choose xs ++ x ∷ []
chosen_new xs x lt other =
    let all = roomy xs lt in
    let here : is_in x.0 (pids (first_of_each [] xs)) ≡ false = ap (λ (zs : List (ℕ × ℕ)). is_in x.0 (pids zs)) (sym all) ∙ other in
    ap (take 64) (first_now xs x ∙ ap (λ (b : Bool). first_of_each [] xs ++ unless b x) here)
    ∙ take_all 64 (first_of_each [] xs ++ x ∷ []) (omega (arith, lt, ap length all, length-append (first_of_each [] xs) (x ∷ [])))
    ∙ ap (λ (zs : List (ℕ × ℕ)). zs ++ x ∷ []) (sym all)

pub follows_pids : (carousel : ℕ) (packets : List Bytes) (fs : List FollowedState) (xs : List (ℕ × ℕ)) → FollowsEach carousel packets fs xs → map (λ f. f.pid) fs ≡ pids xs
follows_pids carousel packets [] [] h = refl
follows_pids carousel packets [] (x ∷ xs) h = absurd h
follows_pids carousel packets (f ∷ fs) [] h = absurd h
follows_pids carousel packets (f ∷ fs) (x ∷ xs) h = ap (λ (p : ℕ). p ∷ map (λ g. g.pid) fs) h.0.pid ∙ ap (λ (ps : List ℕ). x.0 ∷ ps) (follows_pids carousel packets fs xs h.1)

follows_length : (carousel : ℕ) (packets : List Bytes) (fs : List FollowedState) (xs : List (ℕ × ℕ)) → FollowsEach carousel packets fs xs → length fs ≡ length xs
follows_length carousel packets [] [] h = refl
follows_length carousel packets [] (x ∷ xs) h = absurd h
follows_length carousel packets (f ∷ fs) [] h = absurd h
follows_length carousel packets (f ∷ fs) (x ∷ xs) h = ap suc (follows_length carousel packets fs xs h.1)

follows_more : (carousel : ℕ) (packets : List Bytes) (fs : List FollowedState) (xs : List (ℕ × ℕ)) (f : FollowedState) (x : ℕ × ℕ) → FollowsEach carousel packets fs xs → Follows carousel packets f x
    → FollowsEach carousel packets (fs ++ f ∷ []) (xs ++ x ∷ [])
follows_more carousel packets [] [] f x h r = (r, tt)
follows_more carousel packets [] (y ∷ ys) f x h r = absurd h
follows_more carousel packets (g ∷ fs) [] f x h r = absurd h
follows_more carousel packets (g ∷ fs) (y ∷ ys) f x h r = (h.0, follows_more carousel packets fs ys f x h.1 r)

pub seen_pid : (pid : ℕ) (fs : List Followed) → list_any (λ f. f.pid == pid) fs ≡ is_in pid (map (λ f. f.pid) (map view_followed fs))
seen_pid pid [] = refl
seen_pid pid (f ∷ fs) = ap (λ (b : Bool). (f.pid == pid) || b) (seen_pid pid fs)

seen_length : (fs : List Followed) → length (map view_followed fs) ≡ length fs
seen_length [] = refl
seen_length (f ∷ fs) = ap suc (seen_length fs)

-- what a line lists
one_listed : (k : ℕ) (l : PatLine) → is_program l ≡ true → listed_pids k (l ∷ []) ≡ (l.pid, k) ∷ []
one_listed k l t = rw t refl

none_listed : (k : ℕ) (l : PatLine) → is_program l ≡ false → listed_pids k (l ∷ []) ≡ []
none_listed k l t = rw t refl

-- the statement of one line
abbrev pub Goes : List Followed → List Followed → List PatLine → Type 0
Goes before after lines = (carousel : ℕ) (packets : List Bytes) (came : List (ℕ × ℕ)) → FollowsEach carousel packets (map view_followed before) (choose came)
    → FollowsEach carousel packets (map view_followed after) (choose (came ++ listed_pids (length packets) lines))

-- a line that is passed over: it is no program's, there is no room, or its PID is followed already
pub passed_over : (fs : List Followed) (l : PatLine) → (is_program l ≡ true → length fs < 64 → list_any (λ f. f.pid == l.pid) fs ≡ true) → Goes fs fs (l ∷ [])
passed_over fs l why carousel packets came h = subst (FollowsEach carousel packets (map view_followed fs)) (sym (stays (is_program l) refl)) h where
  x : ℕ × ℕ
  x = (l.pid, length packets)

  sizes : length fs ≡ length (choose came)
  sizes = sym (seen_length fs) ∙ follows_length carousel packets (map view_followed fs) (choose came) h

  known : length fs < 64 → is_program l ≡ true → is_in l.pid (pids (choose came)) ≡ true
  known lt t = ap (is_in l.pid) (sym (follows_pids carousel packets (map view_followed fs) (choose came) h)) ∙ sym (seen_pid l.pid fs) ∙ why t lt

  listing : is_program l ≡ true → choose (came ++ x ∷ []) ≡ choose came
  listing t = elim (cases_lt (length fs) 64) [ inl lt ↦ chosen_known came x (omega (arith, lt, sizes)) (known lt t) | inr ge ↦ chosen_full came x (omega (arith, ge, sizes)) ]

  stays : (b : Bool) → is_program l ≡ b → choose (came ++ listed_pids (length packets) (l ∷ [])) ≡ choose came
  stays true t = ap (λ (ys : List (ℕ × ℕ)). choose (came ++ ys)) (one_listed (length packets) l t) ∙ listing t
  stays false t = ap (λ (ys : List (ℕ × ℕ)). choose (came ++ ys)) (none_listed (length packets) l t) ∙ ap choose (append-nil came)

-- a program's PID that isn't followed yet, where there is room
pub taken_up : (fs : List Followed) (l : PatLine) (f : Followed) → is_program l ≡ true → length fs < 64 → list_any (λ g. g.pid == l.pid) fs ≡ false
    → f.pid ≡ l.pid → f.demux.pid ≡ l.pid → streams.StandsFor f.demux [] → f.programs.items ≡ [] → Goes fs (fs ++ f ∷ []) (l ∷ [])
taken_up fs l f t lt other pid demux stands programs carousel packets came h =
    let sizes : length fs ≡ length (choose came) = sym (seen_length fs) ∙ follows_length carousel packets (map view_followed fs) (choose came) h in
    let unknown : is_in l.pid (pids (choose came)) ≡ false = ap (is_in l.pid) (sym (follows_pids carousel packets (map view_followed fs) (choose came) h)) ∙ sym (seen_pid l.pid fs) ∙ other in
    let longer : choose (came ++ listed_pids (length packets) (l ∷ [])) ≡ choose came ++ x ∷ [] =
    ap (λ (ys : List (ℕ × ℕ)). choose (came ++ ys)) (one_listed (length packets) l t) ∙ chosen_new came x (omega (arith, lt, sizes)) unknown in
    let all : FollowsEach carousel packets (map view_followed fs ++ view_followed f ∷ []) (choose came ++ x ∷ []) =
    follows_more carousel packets (map view_followed fs) (choose came) (view_followed f) x h begins in
    rw (longer, map-append view_followed fs (f ∷ [])) all where
      x : ℕ × ℕ
      x = (l.pid, length packets)

      nothing_left : drop (length packets) packets ≡ []
      nothing_left = drop_all (length packets) packets (omega arith)

      nothing_heard : Hears carousel (view_followed f) []
      nothing_heard = record { demux = record { own = demux ∙ sym pid; stands = stands }; programs = λ program. ap (named_for program) programs }

      begins : Follows carousel packets (view_followed f) x
      begins = record { pid = pid; since = omega arith; hears = subst (Hears carousel (view_followed f)) (sym nothing_left) nothing_heard }

-- one line after another
listed_append : (k : ℕ) (ls ms : List PatLine) → listed_pids k (ls ++ ms) ≡ listed_pids k ls ++ listed_pids k ms
listed_append k ls ms = ap (map (λ l. (l.pid, k))) (filter-append is_program ls ms) ∙ map-append (λ l. (l.pid, k)) (filter is_program ls) (filter is_program ms)

pub goes_none : (fs : List Followed) → Goes fs fs []
goes_none fs carousel packets came h = subst (FollowsEach carousel packets (map view_followed fs)) (ap choose (sym (append-nil came))) h

pub goes_then : (fs gs hs : List Followed) (ls ms : List PatLine) → Goes fs gs ls → Goes gs hs ms → Goes fs hs (ls ++ ms)
goes_then fs gs hs ls ms one two carousel packets came h =
    let k = length packets in
    subst (λ (ys : List (ℕ × ℕ)). FollowsEach carousel packets (map view_followed hs) (choose ys))
    (append_assoc came (listed_pids k ls) (listed_pids k ms) ∙ ap (λ (ys : List (ℕ × ℕ)). came ++ ys) (sym (listed_append k ls ms)))
    (two carousel packets (came ++ listed_pids k ls) (one carousel packets came h))

pub goes_more : (fs gs hs : List Followed) (lines : List PatLine) (i : ℕ) (d : PatLine) → i < length lines → Goes fs gs (take i lines) → Goes gs hs (get_or lines i d ∷ []) → Goes fs hs (take (i + 1) lines)
goes_more fs gs hs lines i d lt one two = subst (Goes fs hs) (sym (take_more lines i d lt)) (goes_then fs gs hs (take i lines) (get_or lines i d ∷ []) one two)

-- as the code asks

not_both : (a b c : Bool) → (a && b && not c) ≡ false → a ≡ true → b ≡ true → c ≡ true
not_both true true true e f g = refl
not_both true true false e f g = cc
not_both true false c e f g = cc
not_both false b c e f g = cc

all_three : (a b c : Bool) → (a && b && not c) ≡ true → (a ≡ true) × (b ≡ true) × (c ≡ false)
all_three true true true e = cc
all_three true true false e = (refl, refl, refl)
all_three true false c e = cc
all_three false b c e = cc

pub not_wanted : (fs : List Followed) (l : PatLine) → becomes_followed fs l ≡ false → Goes fs fs (l ∷ [])
not_wanted fs l e = passed_over fs l (λ t lt. not_both (is_program l) (ltb (length fs) 64) (list_any (λ f. f.pid == l.pid) fs) e t (lt-ltb (length fs) 64 lt))

pub is_wanted : (fs gs : List Followed) (l : PatLine) (f : Followed) → becomes_followed fs l ≡ true → gs ≡ fs ++ f ∷ []
    → f.pid ≡ l.pid → f.demux.pid ≡ l.pid → streams.StandsFor f.demux [] → f.programs.items ≡ [] → Goes fs gs (l ∷ [])
is_wanted fs gs l f e same pid demux stands programs =
    let all = all_three (is_program l) (ltb (length fs) 64) (list_any (λ g. g.pid == l.pid) fs) e in
    subst (λ (hs : List Followed). Goes fs hs (l ∷ [])) (sym same) (taken_up fs l f all.0 (ltb-true (length fs) 64 all.1) all.2 pid demux stands programs)
