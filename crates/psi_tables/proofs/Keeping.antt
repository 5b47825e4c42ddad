-- The directory over one section of the PAT more, and what it answers.
use Rattle.std.proofs.Common.{ℕ, zero, suc, ◌≡◌, ◌+◌, ◌<◌, ◌≤◌, Bool, true, false, cond, ◌==◌, List, [], ◌∷◌, ◌++◌, length, get_or, map, take, drop, Option, Some, None, option_and_then, refl, sym, ap, subst, ◌∙◌, append_assoc, arith, length-append}
use Rattle.std.specs.List.{filter_map, flat_map, find, cons_option}
use Rattle.std.specs.Option.{option_map}
use Rattle.std.proofs.lemmas.Bool.{eq-eqb, eqb-true, and_parts, and_from}
use Rattle.std.proofs.lemmas.List.{append-nil, map-append, drop-append-le, take_at, take_all, drop_at, take-append-le, take_more}
use Rattle.std.proofs.lemmas.List.Elements.{filter_map-append}
use Rattle.std.proofs.lemmas.Grind.{flat_map-append}
use Rattle.section_stream.specs.Cuts.{Bytes, candidates}
use Rattle.psi_tables.specs.declared.tables.PatLine.{PatLine}
use Rattle.psi_tables.specs.declared.directory.Directory.{Directory}
use Rattle.std.specs.declared.vec.Vec.{Vec}
use Rattle.std.specs.declared.alloc.Global.{Global}
use Rattle.section_stream.specs.Kept.{view_bytes}
use Rattle.psi_tables.specs.Pats.{PatFields, view_pat}
use Rattle.psi_tables.specs.Finding.{choose, listed_pids, listings, arrivals, arrivals_of, completed_by, is_section, newest_in, section_among, pat_in, pats_among, pats_in, pmts_in, pmt_among, pmt_of_line, names, followed_in, lines_in_section, found_with, found_in}
use Rattle.psi_tables.specs.Inner.Finding.{listed_by, list_of}
use Rattle.psi_tables.specs.Stands.{FollowedState, DirectoryState, Hears, FollowsEach, Keeps, named_for, section_kept, view_directory}
use Rattle.psi_tables.specs.Inner.Stands.{named_by, found_by}
use Rattle.psi_tables.specs.Inner.Steps.{put, Each, Heard}
use Rattle.psi_tables.proofs.Lists.{found_put, found_still, last_more, last_where_here, last_where_still}
use Rattle.psi_tables.proofs.Following.{Goes}

-- ---- one section

same_section : (v n : ℕ) (p : PatFields) → is_section v n p ≡ true → (p.version ≡ v) × (p.number ≡ n)
same_section v n p t = let both = and_parts (p.version == v) (p.number == n) t in (eqb-true p.version v both.0, eqb-true p.number n both.1)

its_section : (p : PatFields) → is_section p.version p.number p ≡ true
its_section p = and_from (p.version == p.version) (p.number == p.number) (eq-eqb p.version p.version refl) (eq-eqb p.number p.number refl)

moved : (a b c d : ℕ) (q : PatFields) → a ≡ c → b ≡ d → is_section a b q ≡ is_section c d q
moved a b c d q e g = ap (λ (v : ℕ). is_section v b q) e ∙ ap (λ (n : ℕ). is_section c n q) g

other_false : (b c : Bool) → (b ≡ true → c ≡ true) → c ≡ false → b ≡ false
other_false true c f e = absurd (cc (f refl, e))
other_false false c f e = refl

-- one that has the key of p doesn't have another one
apart : (v n : ℕ) (p : PatFields) → is_section v n p ≡ false → (q : PatFields) → is_section p.version p.number q ≡ true → is_section v n q ≡ false
apart v n p other q t =
    let same = same_section p.version p.number q t in
    other_false (is_section v n q) (is_section v n p)
    (λ s. let at = same_section v n q s in and_from (p.version == v) (p.number == n) (eq-eqb p.version v (sym same.0 ∙ at.0)) (eq-eqb p.number n (sym same.1 ∙ at.1)))
    other

sections_more : (sections pats : List PatFields) (p : PatFields) → ((v n : ℕ) → section_kept sections v n ≡ section_among pats v n)
    → (v n : ℕ) → section_kept (put (is_section p.version p.number) p sections) v n ≡ section_among (pats ++ p ∷ []) v n
sections_more sections pats p are v n = go (is_section v n p) refl where
  here : is_section v n p ≡ true → section_kept (put (is_section p.version p.number) p sections) v n ≡ section_among (pats ++ p ∷ []) v n
  here t =
      let same = same_section v n p t in
      let P : ℕ → ℕ → Type 0 = λ a b. find (is_section a b) (put (is_section p.version p.number) p sections) ≡ Some p in
      let found : find (is_section v n) (put (is_section p.version p.number) p sections) ≡ Some p =
      subst (λ (a : ℕ). P a n) same.0 (subst (λ (b : ℕ). P p.version b) same.1 (found_put (is_section p.version p.number) p sections (its_section p))) in
      found ∙ sym (last_where_here (is_section v n) pats p t)

  still : is_section v n p ≡ false → section_kept (put (is_section p.version p.number) p sections) v n ≡ section_among (pats ++ p ∷ []) v n
  still t = found_still (is_section p.version p.number) (is_section v n) p sections (apart v n p t) t ∙ are v n ∙ sym (last_where_still (is_section v n) pats p t)

  go : (b : Bool) → is_section v n p ≡ b → section_kept (put (is_section p.version p.number) p sections) v n ≡ section_among (pats ++ p ∷ []) v n
  go true t = here t
  go false t = still t

pub keeps_more : (packets : List Bytes) (d e : DirectoryState) (pats : List PatFields) (came : List (ℕ × ℕ)) (p : PatFields) → e.carousel ≡ d.carousel → e.newest ≡ Some p.version
    → e.sections ≡ put (is_section p.version p.number) p d.sections
    → FollowsEach d.carousel packets e.followed (choose (came ++ listed_pids (length packets) p.lines))
    → Keeps packets d pats came → Keeps packets e (pats ++ p ∷ []) (came ++ listed_pids (length packets) p.lines)
keeps_more packets d e pats came p carousel newest sections followed h = record {
  newest = newest ∙ sym (ap (option_map (λ (q : PatFields). q.version)) (last_more pats p));
  sections = λ v n. ap (λ (xs : List PatFields). section_kept xs v n) sections ∙ sections_more d.sections pats p h.sections v n;
  followed = subst (λ (c : ℕ). FollowsEach c packets e.followed (choose (came ++ listed_pids (length packets) p.lines))) (sym carousel) followed;
}

pub keeps_as : (packets : List Bytes) (d : DirectoryState) (pats qats : List PatFields) (came dame : List (ℕ × ℕ)) → pats ≡ qats → came ≡ dame → Keeps packets d pats came → Keeps packets d qats dame
keeps_as packets d pats qats came dame e g h = subst (λ (xs : List PatFields). Keeps packets d xs dame) e (subst (λ (ys : List (ℕ × ℕ)). Keeps packets d pats ys) g h)

-- the statement over sections
abbrev pub Takes : Directory → Directory → List Bytes → Type 0
Takes before after sections = (packets : List Bytes) (pats : List PatFields) (came : List (ℕ × ℕ)) → Keeps packets (view_directory before) pats came
    → Keeps packets (view_directory after) (pats ++ pats_among sections) (came ++ listed_by (length packets) sections)

abbrev pub TakesOne : Directory → Directory → Bytes → Type 0
TakesOne before after section = (packets : List Bytes) (pats : List PatFields) (came : List (ℕ × ℕ)) → Keeps packets (view_directory before) pats came
    → Keeps packets (view_directory after) (pats ++ list_of (pat_in section)) (came ++ listed_pids (length packets) (lines_in_section (pat_in section)))

-- bytes that are no PAT section
pub takes_no_section : (d : Directory) (section : Bytes) → pat_in section ≡ None → TakesOne d d section
takes_no_section d section none packets pats came h =
    keeps_as packets (view_directory d) pats (pats ++ list_of (pat_in section)) came (came ++ listed_pids (length packets) (lines_in_section (pat_in section)))
    (sym (append-nil pats) ∙ ap (λ (o : Option PatFields). pats ++ list_of o) (sym none)) (sym (append-nil came) ∙ ap (λ (o : Option PatFields). came ++ listed_pids (length packets) (lines_in_section o)) (sym none)) h

-- bytes that are a PAT section
pub takes_section : (d e : Directory) (section : Bytes) (p : PatFields) → pat_in section ≡ Some p → e.carousel ≡ d.carousel → e.newest ≡ Some p.version
    → map view_pat e.sections.items ≡ put (is_section p.version p.number) p (map view_pat d.sections.items) → Goes d.followed.items e.followed.items p.lines → TakesOne d e section
takes_section d e section p read carousel newest sections goes packets pats came h =
    keeps_as packets (view_directory e) (pats ++ p ∷ []) (pats ++ list_of (pat_in section)) (came ++ listed_pids (length packets) p.lines) (came ++ listed_pids (length packets) (lines_in_section (pat_in section)))
    (ap (λ (o : Option PatFields). pats ++ list_of o) (sym read)) (ap (λ (o : Option PatFields). came ++ listed_pids (length packets) (lines_in_section o)) (sym read))
    (keeps_more packets (view_directory d) (view_directory e) pats came p carousel newest sections (goes d.carousel packets came h.followed) h)

pub takes_none : (d : Directory) → Takes d d []
takes_none d packets pats came h = keeps_as packets (view_directory d) pats (pats ++ []) came (came ++ []) (sym (append-nil pats)) (sym (append-nil came)) h

as_list : (s : Bytes) → pats_among (s ∷ []) ≡ list_of (pat_in s)
as_list s = go (pat_in s) where
  go : (o : Option PatFields) → cons_option o [] ≡ list_of o
  go (Some p) = refl
  go None = refl

pub takes_then : (d e f : Directory) (ss : List Bytes) (s : Bytes) → Takes d e ss → TakesOne e f s → Takes d f (ss ++ s ∷ [])
takes_then d e f ss s one two packets pats came h =
    let k = length packets in
    let so_far = two packets (pats ++ pats_among ss) (came ++ listed_by k ss) (one packets pats came h) in
    let same_pats : pats ++ pats_among ss ++ list_of (pat_in s) ≡ pats ++ pats_among (ss ++ s ∷ []) =
    append_assoc pats (pats_among ss) (list_of (pat_in s)) ∙ ap (λ (xs : List PatFields). pats ++ xs) (ap (λ (xs : List PatFields). pats_among ss ++ xs) (sym (as_list s)) ∙ sym (filter_map-append pat_in ss (s ∷ []))) in
    let one_list : listed_by k (s ∷ []) ≡ listed_pids k (lines_in_section (pat_in s)) = append-nil (listed_pids k (lines_in_section (pat_in s))) in
    let same_listed : came ++ listed_by k ss ++ listed_pids k (lines_in_section (pat_in s)) ≡ came ++ listed_by k (ss ++ s ∷ []) =
    append_assoc came (listed_by k ss) (listed_pids k (lines_in_section (pat_in s)))
    ∙ ap (λ (xs : List (ℕ × ℕ)). came ++ xs) (ap (λ (xs : List (ℕ × ℕ)). listed_by k ss ++ xs) (sym one_list) ∙ sym (flat_map-append (λ t. listed_pids k (lines_in_section (pat_in t))) ss (s ∷ []))) in
    keeps_as packets (view_directory f) (pats ++ pats_among ss ++ list_of (pat_in s)) (pats ++ pats_among (ss ++ s ∷ [])) _ (came ++ listed_by k (ss ++ s ∷ [])) same_pats same_listed so_far

pub takes_more : (d e f : Directory) (sections : List (Vec ℕ Global)) (i : ℕ) (x : Vec ℕ Global) (s : Bytes) → i < length sections → x ≡ get_or sections i x → s ≡ x.items
    → Takes d e (map view_bytes (take i sections)) → TakesOne e f s → Takes d f (map view_bytes (take (i + 1) sections))
takes_more d e f sections i x s lt is same one two =
    let longer : map view_bytes (take (i + 1) sections) ≡ map view_bytes (take i sections) ++ s ∷ [] =
    ap (map view_bytes) (take_more sections i x lt) ∙ map-append view_bytes (take i sections) (get_or sections i x ∷ [])
    ∙ ap (λ (t : Bytes). map view_bytes (take i sections) ++ t ∷ []) (ap view_bytes (sym is) ∙ sym same) in
    subst (λ (ss : List Bytes). Takes d f ss) (sym longer) (takes_then d e f (map view_bytes (take i sections)) s one two)

-- ---- one packet

follows_step : (carousel : ℕ) (packets : List Bytes) (x : Bytes) (b : Bool) (fs gs : List FollowedState) (xs : List (ℕ × ℕ)) → FollowsEach carousel packets fs xs → Each (Heard carousel x b) fs gs
    → FollowsEach carousel (packets ++ x ∷ []) gs xs
follows_step carousel packets x b [] [] [] h e = tt
follows_step carousel packets x b [] (g ∷ gs) xs h e = absurd e
follows_step carousel packets x b (f ∷ fs) [] xs h e = absurd e
follows_step carousel packets x b [] [] (y ∷ ys) h e = absurd h
follows_step carousel packets x b (f ∷ fs) (g ∷ gs) [] h e = absurd h
follows_step carousel packets x b (f ∷ fs) (g ∷ gs) (y ∷ ys) h e =
    let k = y.1 in
    let longer : drop k packets ++ x ∷ [] ≡ drop k (packets ++ x ∷ []) = sym (drop-append-le k packets (x ∷ []) h.0.since) in (
      record {
        pid = e.0.pid ∙ h.0.pid;
        since = omega (arith, h.0.since, length-append packets (x ∷ []));
        hears = subst (Hears carousel g) longer (e.0.hears (drop k packets) h.0.hears);
      },
      follows_step carousel packets x b fs gs ys h.1 e.1,
    )

pub keeps_step : (packets : List Bytes) (x : Bytes) (b : Bool) (d e : DirectoryState) (pats : List PatFields) (came : List (ℕ × ℕ)) → e.carousel ≡ d.carousel → e.newest ≡ d.newest → e.sections ≡ d.sections
    → Each (Heard d.carousel x b) d.followed e.followed → Keeps packets d pats came → Keeps (packets ++ x ∷ []) e pats came
keeps_step packets x b d e pats came carousel newest sections heard h = record {
  newest = newest ∙ h.newest;
  sections = λ v n. ap (λ (xs : List PatFields). section_kept xs v n) sections ∙ h.sections v n;
  followed = subst (λ (c : ℕ). FollowsEach c (packets ++ x ∷ []) e.followed (choose came)) (sym carousel) (follows_step d.carousel packets x b d.followed e.followed (choose came) h.followed heard);
}

-- the longer list of packets has the arrivals of the shorter one
arrivals_stay : (pid : ℕ) (packets more : List Bytes) (n : ℕ) → n ≤ length packets → arrivals_of pid (packets ++ more) n ≡ arrivals_of pid packets n
arrivals_stay pid packets more zero le = refl
arrivals_stay pid packets more (suc n) le =
    let before : take n (packets ++ more) ≡ take n packets = take-append-le n packets more (omega arith) in
    let after : take (suc n) (packets ++ more) ≡ take (suc n) packets = take-append-le (suc n) packets more le in
    let same : completed_by pid (packets ++ more) n ≡ completed_by pid packets n =
    ap (λ (ps : List Bytes). drop (length (candidates pid ps)) (candidates pid (take (suc n) (packets ++ more)))) before
    ∙ ap (λ (ps : List Bytes). drop (length (candidates pid (take n packets))) (candidates pid ps)) after in
    ap (λ (came : List (Bytes × ℕ)). came ++ map (λ c. (c, suc n)) (completed_by pid (packets ++ more) n)) (arrivals_stay pid packets more n (omega arith))
    ∙ ap (λ (cs : List Bytes). arrivals_of pid packets n ++ map (λ c. (c, suc n)) cs) same

one_longer : (packets : List Bytes) (x : Bytes) → length (packets ++ x ∷ []) ≡ suc (length packets)
one_longer [] x = refl
one_longer (p ∷ ps) x = ap suc (one_longer ps x)

arrivals_more : (pid : ℕ) (packets : List Bytes) (x : Bytes) (new : List Bytes) → candidates pid (packets ++ x ∷ []) ≡ candidates pid packets ++ new
    → arrivals pid (packets ++ x ∷ []) ≡ arrivals pid packets ++ map (λ c. (c, length (packets ++ x ∷ []))) new
arrivals_more pid packets x new cuts =
    let n = length packets in
    let longer = packets ++ x ∷ [] in
    let size = one_longer packets x in
    let before : take n longer ≡ packets = take_at packets (x ∷ []) n refl in
    let after : take (suc n) longer ≡ longer = take_all (suc n) longer (omega (arith, size)) in
    let completed : completed_by pid longer n ≡ new =
    ap (λ (ps : List Bytes). drop (length (candidates pid ps)) (candidates pid (take (suc n) longer))) before
    ∙ ap (λ (ps : List Bytes). drop (length (candidates pid packets)) (candidates pid ps)) after
    ∙ ap (drop (length (candidates pid packets))) cuts ∙ drop_at (candidates pid packets) new (length (candidates pid packets)) refl in
    ap (arrivals_of pid longer) size
    ∙ ap (λ (came : List (Bytes × ℕ)). came ++ map (λ c. (c, suc n)) (completed_by pid longer n)) (arrivals_stay pid packets (x ∷ []) n (omega arith))
    ∙ ap (λ (cs : List Bytes). arrivals_of pid packets n ++ map (λ c. (c, suc n)) cs) completed
    ∙ ap (λ (k : ℕ). arrivals_of pid packets n ++ map (λ c. (c, k)) new) (sym size)

flat_seen : (k : ℕ) (cs : List Bytes) → flat_map (λ (a : Bytes × ℕ). listed_pids a.1 (lines_in_section (pat_in a.0))) (map (λ c. (c, k)) cs) ≡ listed_by k cs
flat_seen k [] = refl
flat_seen k (c ∷ cs) = ap (λ (ys : List (ℕ × ℕ)). listed_pids k (lines_in_section (pat_in c)) ++ ys) (flat_seen k cs)

pub listings_more : (packets : List Bytes) (x : Bytes) (new : List Bytes) → candidates 0 (packets ++ x ∷ []) ≡ candidates 0 packets ++ new
    → listings (packets ++ x ∷ []) ≡ listings packets ++ listed_by (length (packets ++ x ∷ [])) new
listings_more packets x new cuts =
    let k = length (packets ++ x ∷ []) in
    let each : Bytes × ℕ → List (ℕ × ℕ) = λ a. listed_pids a.1 (lines_in_section (pat_in a.0)) in
    ap (flat_map each) (arrivals_more 0 packets x new cuts) ∙ flat_map-append each (arrivals 0 packets) (map (λ c. (c, k)) new) ∙ ap (λ (ys : List (ℕ × ℕ)). listings packets ++ ys) (flat_seen k new)

pub pats_more : (packets : List Bytes) (x : Bytes) (new : List Bytes) → candidates 0 (packets ++ x ∷ []) ≡ candidates 0 packets ++ new → pats_in (packets ++ x ∷ []) ≡ pats_in packets ++ pats_among new
pats_more packets x new cuts = ap (filter_map pat_in) cuts ∙ filter_map-append pat_in (candidates 0 packets) new

-- ---- the answer

abbrev Named : Type 0
Named = PatLine → Option ℕ

named_is : (carousel : ℕ) (packets : List Bytes) (fs : List FollowedState) (xs : List (ℕ × ℕ)) → FollowsEach carousel packets fs xs → (l : PatLine)
    → named_by fs l ≡ option_and_then (names carousel) (option_and_then (λ x. pmt_among l.program (pmts_in l.pid (drop x.1 packets))) (find (λ x. x.0 == l.pid) xs))
named_is carousel packets [] [] h l = refl
named_is carousel packets [] (x ∷ xs) h l = absurd h
named_is carousel packets (f ∷ fs) [] h l = absurd h
named_is carousel packets (f ∷ fs) (x ∷ xs) h l =
    go (f.pid == l.pid) refl (named_is carousel packets fs xs h.1 l)
    ∙ ap (λ (b : Bool). option_and_then (names carousel) (option_and_then (λ y. pmt_among l.program (pmts_in l.pid (drop y.1 packets))) (cond b (Some x) (find (λ y. y.0 == l.pid) xs)))) (ap (λ (p : ℕ). p == l.pid) h.0.pid) where
      go : (b : Bool) → (f.pid == l.pid) ≡ b
          → named_by fs l ≡ option_and_then (names carousel) (option_and_then (λ y. pmt_among l.program (pmts_in l.pid (drop y.1 packets))) (find (λ y. y.0 == l.pid) xs))
          → option_and_then (λ (g : FollowedState). named_for l.program g.programs) (cond b (Some f) (find (λ g. g.pid == l.pid) fs))
          ≡ option_and_then (names carousel) (option_and_then (λ y. pmt_among l.program (pmts_in l.pid (drop y.1 packets))) (cond b (Some x) (find (λ y. y.0 == l.pid) xs)))
      go true t later = h.0.hears.programs l.program ∙ ap (λ (p : ℕ). option_and_then (names carousel) (pmt_among l.program (pmts_in p (drop x.1 packets)))) (eqb-true f.pid l.pid t)
      go false t later = later

pub found_is : (packets : List Bytes) (d : DirectoryState) → Keeps packets d (pats_in packets) (listings packets) → found_by d ≡ found_in d.carousel packets
found_is packets d h =
    let sections : section_kept d.sections ≡ section_among (pats_in packets) = λ i v n. h.sections v n i in
    let named : ◌≡◌ {A = Named} (named_by d.followed) (λ l. option_and_then (names d.carousel) (pmt_of_line packets l)) = λ i l. named_is d.carousel packets d.followed (followed_in packets) h.followed l i in
    ap (λ (v : Option ℕ). found_with v (section_kept d.sections) (named_by d.followed)) h.newest
    ∙ ap (λ (s : ℕ → ℕ → Option PatFields). found_with (newest_in (pats_in packets)) s (named_by d.followed)) sections
    ∙ ap (λ (n : Named). found_with (newest_in (pats_in packets)) (section_among (pats_in packets)) n) named

named_stays : (carousel : ℕ) (x : Bytes) (fs gs : List FollowedState) (l : PatLine) → Each (Heard carousel x false) fs gs → named_by gs l ≡ named_by fs l
named_stays carousel x [] [] l e = refl
named_stays carousel x [] (g ∷ gs) l e = absurd e
named_stays carousel x (f ∷ fs) [] l e = absurd e
named_stays carousel x (f ∷ fs) (g ∷ gs) l e =
    ap (λ (b : Bool). option_and_then (λ (h : FollowedState). named_for l.program h.programs) (cond b (Some g) (find (λ h. h.pid == l.pid) gs))) (ap (λ (p : ℕ). p == l.pid) e.0.pid)
    ∙ go (f.pid == l.pid) (named_stays carousel x fs gs l e.1) where
      go : (b : Bool) → named_by gs l ≡ named_by fs l
          → option_and_then (λ (h : FollowedState). named_for l.program h.programs) (cond b (Some g) (find (λ h. h.pid == l.pid) gs))
          ≡ option_and_then (λ (h : FollowedState). named_for l.program h.programs) (cond b (Some f) (find (λ h. h.pid == l.pid) fs))
      go true later = ap (named_for l.program) (e.0.quiet refl)
      go false later = later

-- where the packet completed nothing, the answer stays
pub found_stays : (x : Bytes) (d e : DirectoryState) → e.newest ≡ d.newest → e.sections ≡ d.sections → Each (Heard d.carousel x false) d.followed e.followed → found_by e ≡ found_by d
found_stays x d e newest sections heard =
    let named : ◌≡◌ {A = Named} (named_by e.followed) (named_by d.followed) = λ i l. named_stays d.carousel x d.followed e.followed l heard i in
    ap (λ (v : Option ℕ). found_with v (section_kept e.sections) (named_by e.followed)) newest
    ∙ ap (λ (s : List PatFields). found_with d.newest (section_kept s) (named_by e.followed)) sections
    ∙ ap (λ (n : Named). found_with d.newest (section_kept d.sections) n) named
