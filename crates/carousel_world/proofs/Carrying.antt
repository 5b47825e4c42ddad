-- What a downlink hears of one list of packets after another.
use Rattle.std.proofs.Common.{◌≡◌, ℕ, suc, ◌+◌, ◌*◌, ◌^◌, ◌<◌, ◌≤◌, Bool, true, false, List, [], ◌∷◌, ◌++◌, length, map, take, get_or, Option, Some, None, refl, ap, sym, ◌∙◌, subst, append_assoc, add-zero, zero-add, arith}
use Rattle.std.specs.Prelude.{Result, Ok, Err, OnOk}
use Rattle.std.specs.List.{All, fold}
use Rattle.std.specs.declared.vec.Vec.{Vec}
use Rattle.std.specs.declared.alloc.Global.{Global}
use Rattle.std.proofs.lemmas.List.{append-nil, map-append, take_all, take_more, length-take-le, length-append}
use Rattle.std.proofs.lemmas.List.Elements.{All-append, All-map, All-nil, All-take}
use Rattle.std.proofs.lemmas.List.Sums.{fold-append}
use Rattle.path_tree.specs.Paths.{Bytes}
use Rattle.ts_packet.specs.declared.Fate.{Fate}
use Rattle.ts_packet.specs.Fates.{arrival_of}
use Rattle.section_stream.specs.Cuts.{candidates}
use Rattle.section_stream.specs.Kept.{view_bytes}
use Rattle.section_stream.proofs.CallerLemmas.{packets_of_all-append, between_idle, calls_give, few_packets}
use Rattle.section_stream.specs.Packing.{MuxState, IsSectionLike, after_finish, idle, last_of, packets_of, packets_of_all, past}
use Rattle.section_stream.specs.Groups.{IsBetween, layout_of, packets_of_group, past_group}
use Rattle.section_stream.specs.Rules as rules
use Rattle.tuner_core.specs.Stands as tuning
use Rattle.carousel_world.specs.Fates.{Arrival, fate_of, onto_arrivals, under, received_under}
use Rattle.carousel_world.specs.DownView.{DownlinkState, DownlinkStands, begun_with, ended_with, packets_given, past_given}
use Rattle.carousel_world.specs.Inner.DownView.{Hears}

-- ---- fates

-- which packets arrive doesn't depend on their numbers in the air
pub same_packets : (fates : List Fate) (i n m : ℕ) (ps : List Bytes) → map (λ a. a.1) (under fates i n ps) ≡ map (λ a. a.1) (under fates i m ps)
same_packets fates i n m [] = refl
same_packets fates i n m (p ∷ ps) = go (arrival_of (fate_of fates i) p) (same_packets fates (i + 1) (n + 1) (m + 1) ps) where
  go : (o : Option Bytes) → map (λ a. a.1) (under fates (i + 1) (n + 1) ps) ≡ map (λ a. a.1) (under fates (i + 1) (m + 1) ps)
      → map (λ a. a.1) (onto_arrivals n o (under fates (i + 1) (n + 1) ps)) ≡ map (λ a. a.1) (onto_arrivals m o (under fates (i + 1) (m + 1) ps))
  go (Some x) h = ap (λ xs. x ∷ xs) h
  go None h = h

pub under-append : (fates : List Fate) (i n : ℕ) (ps qs : List Bytes) → under fates i n (ps ++ qs) ≡ under fates i n ps ++ under fates (i + length ps) (n + length ps) qs
under-append fates i n [] qs =
    ap (λ k. under fates k n qs) (sym (add-zero i)) ∙ ap (λ k. under fates (i + length {A = Bytes} []) k qs) (sym (add-zero n))
under-append fates i n (p ∷ ps) qs =
    go (arrival_of (fate_of fates i) p) (under-append fates (i + 1) (n + 1) ps qs
    ∙ ap (λ k. under fates (i + 1) (n + 1) ps ++ under fates k (n + 1 + length ps) qs) (omega arith)
    ∙ ap (λ k. under fates (i + 1) (n + 1) ps ++ under fates (i + length (p ∷ ps)) k qs) (omega arith)) where
      go : (o : Option Bytes) → under fates (i + 1) (n + 1) (ps ++ qs) ≡ under fates (i + 1) (n + 1) ps ++ under fates (i + length (p ∷ ps)) (n + length (p ∷ ps)) qs
          → onto_arrivals n o (under fates (i + 1) (n + 1) (ps ++ qs)) ≡ onto_arrivals n o (under fates (i + 1) (n + 1) ps) ++ under fates (i + length (p ∷ ps)) (n + length (p ∷ ps)) qs
      go (Some x) h = ap (λ xs. (n, x) ∷ xs) h
      go None h = h

pub received-append : (fates : List Fate) (i : ℕ) (ps qs : List Bytes) → received_under fates i (ps ++ qs) ≡ received_under fates i ps ++ received_under fates (i + length ps) qs
received-append fates i ps qs =
    ap (map (λ a. a.1)) (under-append fates i 0 ps qs)
    ∙ map-append (λ (a : Arrival). a.1) (under fates i 0 ps) (under fates (i + length ps) (0 + length ps) qs)
    ∙ ap (λ xs. received_under fates i ps ++ xs) (same_packets fates (i + length ps) (0 + length ps) 0 qs)

-- one packet more, which arrives
pub one_arrives : (fates : List Fate) (from number k : ℕ) (ps : List Bytes) (p x d : Bytes) → number ≡ from + k → k < length ps → p ≡ get_or ps k d → Some x ≡ arrival_of (fate_of fates number) p
    → received_under fates from (take (k + 1) ps) ≡ received_under fates from (take k ps) ++ x ∷ []
one_arrives fates from number k ps p x d n lt e a =
    let size : length (take k ps) ≡ k = length-take-le k ps (omega (arith, lt)) in
    ap (received_under fates from) (take_more ps k d lt ∙ ap (λ y. take k ps ++ y ∷ []) (sym e))
    ∙ received-append fates from (take k ps) (p ∷ [])
    ∙ ap (λ j. received_under fates from (take k ps) ++ received_under fates j (p ∷ [])) (ap (λ j. from + j) size ∙ sym n)
    ∙ ap (λ o. received_under fates from (take k ps) ++ map (λ a. a.1) (onto_arrivals 0 o [])) (sym a)

-- one packet more, which doesn't
pub one_is_lost : (fates : List Fate) (from number k : ℕ) (ps : List Bytes) (p d : Bytes) → number ≡ from + k → k < length ps → p ≡ get_or ps k d → None ≡ arrival_of (fate_of fates number) p
    → received_under fates from (take (k + 1) ps) ≡ received_under fates from (take k ps)
one_is_lost fates from number k ps p d n lt e a =
    let size : length (take k ps) ≡ k = length-take-le k ps (omega (arith, lt)) in
    ap (received_under fates from) (take_more ps k d lt ∙ ap (λ y. take k ps ++ y ∷ []) (sym e))
    ∙ received-append fates from (take k ps) (p ∷ [])
    ∙ ap (λ j. received_under fates from (take k ps) ++ received_under fates j (p ∷ [])) (ap (λ j. from + j) size ∙ sym n)
    ∙ ap (λ o. received_under fates from (take k ps) ++ map (λ a. a.1) (onto_arrivals 0 o [])) (sym a)
    ∙ append-nil (received_under fates from (take k ps))

-- ---- how many packets

-- a section gives at most 23 packets, and a group's end one
pub few : (m : MuxState) (ss : List Bytes) → All IsSectionLike ss → length (packets_of_all m ss) ≤ 23 * length ss
few m [] like = omega arith
few m (s ∷ ss) like =
    let one = few_packets m s (like 0 s (omega arith)) in
    let more = few (past m s) ss (λ k d below. like (suc k) d (omega (arith, below))) in
    let all = length-append (packets_of m s) (packets_of_all (past m s) ss) in
    omega (arith, one, more, all)

-- ---- hearing

pub hears_nothing : (d : DownlinkState) → Hears d d []
hears_nothing d = record {
  spent = refl;
  one_pid = refl;
  demux = λ packets st. subst (rules.StandsFor d.demux) (sym (append-nil packets)) st;
  tuner = λ packets st t. subst (λ ps. tuning.StandsFor d.tuner (candidates d.demux.pid ps)) (sym (append-nil packets)) t;
}

pub hears_more : (d e f : DownlinkState) (xs ys zs : List Bytes) → zs ≡ xs ++ ys → Hears d e xs → Hears e f ys → Hears d f zs
hears_more d e f xs ys zs z h k = record {
  spent = k.spent ∙ h.spent;
  one_pid = k.one_pid ∙ h.one_pid;
  demux = λ packets st. subst (rules.StandsFor f.demux) (all packets) (k.demux (packets ++ xs) (h.demux packets st));
  tuner = λ packets st t.
      let mid : tuning.StandsFor e.tuner (candidates e.demux.pid (packets ++ xs)) = subst (λ pid. tuning.StandsFor e.tuner (candidates pid (packets ++ xs))) (sym h.one_pid) (h.tuner packets st t) in
      let end : tuning.StandsFor f.tuner (candidates d.demux.pid ((packets ++ xs) ++ ys)) = subst (λ pid. tuning.StandsFor f.tuner (candidates pid ((packets ++ xs) ++ ys))) h.one_pid (k.tuner (packets ++ xs) (h.demux packets st) mid) in
      subst (λ ps. tuning.StandsFor f.tuner (candidates d.demux.pid ps)) (all packets) end;
} where
  all : (packets : List Bytes) → (packets ++ xs) ++ ys ≡ packets ++ zs
  all packets = append_assoc packets xs ys ∙ ap (λ ps. packets ++ ps) (sym z)

-- the packer is between groups where it is after some
between_from : (m : MuxState) (groups : List (List Bytes)) → IsBetween m → IsBetween (fold past_group m groups)
between_from m [] b = b
between_from m (g ∷ gs) b = between_from (past_group m g) gs (between_idle m.pid (m.counter + length (layout_of g)))

pub between_groups : (pid : ℕ) (groups : List (List Bytes)) → IsBetween (fold past_group (idle pid 0) groups)
between_groups pid groups = between_from (idle pid 0) groups (between_idle pid 0)

-- what is sent and heard, of a downlink that stands for what was sent and heard before
pub stands_on : (last : Bool) (d e : DownlinkState) (pid : ℕ) (groups : List (List Bytes)) (begun more packets came : List Bytes) → All IsSectionLike more → e.mux ≡ past_given d.mux more last → Hears d e came
    → DownlinkStands d pid groups begun packets → DownlinkStands e pid (ended_with groups (begun ++ more) last) (begun_with (begun ++ more) last) (packets ++ came)
stands_on last d e pid groups begun more packets came framed m h st = by last m where
  start : MuxState
  start = fold past_group (idle pid 0) groups

  like : All IsSectionLike (begun ++ more)
  like = All-append IsSectionLike begun more st.like framed

  steps : fold past d.mux more ≡ fold past start (begun ++ more)
  steps = ap (λ x. fold past x more) st.mux ∙ sym (fold-append past start begun more)

  tuned : tuning.StandsFor e.tuner (candidates pid (packets ++ came))
  tuned = subst (λ p. tuning.StandsFor e.tuner (candidates p (packets ++ came))) st.one_pid
      (h.tuner packets st.demux (subst (λ p. tuning.StandsFor d.tuner (candidates p packets)) (sym st.one_pid) st.tuner))

  by : (b : Bool) → e.mux ≡ past_given d.mux more b → DownlinkStands e pid (ended_with groups (begun ++ more) b) (begun_with (begun ++ more) b) (packets ++ came)
  by false n = record { works = h.spent ∙ st.works; mux = n ∙ steps; like = like; one_pid = h.one_pid ∙ st.one_pid; demux = h.demux packets st.demux; tuner = tuned }
  by true n = record {
    works = h.spent ∙ st.works;
    mux = n ∙ ap after_finish steps ∙ (calls_give start (begun ++ more) (between_groups pid groups) like).1 ∙ sym (fold-append past_group (idle pid 0) groups ((begun ++ more) ∷ []));
    like = All-nil IsSectionLike;
    one_pid = h.one_pid ∙ st.one_pid;
    demux = h.demux packets st.demux;
    tuner = tuned;
  }

-- ---- one packet of a list, and one section

-- a packet that arrives, heard
pub one_heard : (d e f : DownlinkState) (fates : List Fate) (from number k : ℕ) (ps : List Bytes) (p x q : Bytes) → number ≡ from + k → k < length ps → p ≡ get_or ps k q → Some x ≡ arrival_of (fate_of fates number) p
    → Hears d e (received_under fates from (take k ps)) → Hears e f (x ∷ []) → Hears d f (received_under fates from (take (k + 1) ps))
one_heard d e f fates from number k ps p x q n lt is a h more =
    hears_more d e f (received_under fates from (take k ps)) (x ∷ []) (received_under fates from (take (k + 1) ps)) (one_arrives fates from number k ps p x q n lt is a) h more

-- and one that is lost
pub one_not_heard : (d e : DownlinkState) (fates : List Fate) (from number k : ℕ) (ps : List Bytes) (p q : Bytes) → number ≡ from + k → k < length ps → p ≡ get_or ps k q → None ≡ arrival_of (fate_of fates number) p
    → Hears d e (received_under fates from (take k ps)) → Hears d e (received_under fates from (take (k + 1) ps))
one_not_heard d e fates from number k ps p q n lt is a h = subst (Hears d e) (sym (one_is_lost fates from number k ps p q n lt is a)) h

-- what the sections so far gave
pub record Sent (d e : DownlinkState) (fates : List Fate) (from number : ℕ) (sections : List Bytes) : Type 0 where
  pub count : number ≡ from + length (packets_of_all d.mux sections)
  pub mux : e.mux ≡ fold past d.mux sections
  pub hears : Hears d e (received_under fates from (packets_of_all d.mux sections))

pub none_sent : (d : DownlinkState) (fates : List Fate) (from : ℕ) → Sent d d fates from from []
none_sent d fates from = record { count = sym (add-zero from); mux = refl; hears = hears_nothing d }

-- one section more: its packets are made, and received from their number on
pub one_sent : (d e f : DownlinkState) (fates : List Fate) (from number after : ℕ) (sections more : List Bytes) (s : Bytes) (packets : List Bytes)
    → more ≡ sections ++ s ∷ [] → packets ≡ packets_of e.mux s → after ≡ number + length packets → f.mux ≡ past e.mux s
    → Hears e f (received_under fates number packets) → Sent d e fates from number sections → Sent d f fates from after more
one_sent d e f fates from number after sections more s packets m p a x h so =
    let all : packets_of_all d.mux more ≡ packets_of_all d.mux sections ++ packets =
    ap (packets_of_all d.mux) m ∙ packets_of_all-append d.mux sections (s ∷ [])
    ∙ ap (λ y. packets_of_all d.mux sections ++ y) (append-nil (packets_of (fold past d.mux sections) s) ∙ ap (λ y. packets_of y s) (sym so.mux) ∙ sym p) in
    let size : length (packets_of_all d.mux more) ≡ length (packets_of_all d.mux sections) + length packets = ap length all ∙ length-append (packets_of_all d.mux sections) packets in
    let came : received_under fates from (packets_of_all d.mux more) ≡ received_under fates from (packets_of_all d.mux sections) ++ received_under fates number packets =
    ap (received_under fates from) all ∙ received-append fates from (packets_of_all d.mux sections) packets
    ∙ ap (λ k. received_under fates from (packets_of_all d.mux sections) ++ received_under fates k packets) (sym so.count) in
    record {
      count = let c = so.count in omega (arith, a, c, size);
      mux = x ∙ ap (λ y. past y s) so.mux ∙ sym (fold-append past d.mux sections (s ∷ [])) ∙ ap (fold past d.mux) (sym m);
      hears = hears_more d e f (received_under fates from (packets_of_all d.mux sections)) (received_under fates number packets) (received_under fates from (packets_of_all d.mux more)) came so.hears h;
    }

-- the next packet number has its bound
pub number_fits : (d e : DownlinkState) (fates : List Fate) (from number : ℕ) (sections : List Bytes) → All IsSectionLike sections → length sections ≤ 1048576 → from ≤ 2 ^ 40 → Sent d e fates from number sections
    → number ≤ 1099535745024
number_fits d e fates from number sections like most le so =
    let c = so.count in
    let f = few d.mux sections like in
    omega (arith, c, f, most, le)

size_map : (vs : List (Vec ℕ Global)) → length (map view_bytes vs) ≡ length vs
size_map [] = refl
size_map (v ∷ vs) = let h = size_map vs in omega (arith, h)

pub packets_fit : (d e : DownlinkState) (fates : List Fate) (from number i : ℕ) (sections : List (Vec ℕ Global)) (item : Vec ℕ Global) (s : Bytes) (packets : List Bytes)
    → All (λ v. IsSectionLike v.items) sections → length sections ≤ 1048576 → i < length sections → from ≤ 2 ^ 40 → Sent d e fates from number (map view_bytes (take i sections))
    → item ≡ get_or sections i item → s ≡ item.items → packets ≡ packets_of e.mux s → number + length packets < 2 ^ 64
packets_fit d e fates from number i sections item s packets like most within le so at is made =
    let before : All IsSectionLike (map view_bytes (take i sections)) = All-map IsSectionLike view_bytes (take i sections) (All-take (λ v. IsSectionLike v.items) i sections like) in
    let size : length (map view_bytes (take i sections)) ≡ length (take i sections) = size_map (take i sections) in
    let taken = length-take-le i sections (omega (arith, within)) in
    let n = number_fits d e fates from number (map view_bytes (take i sections)) before (omega (arith, size, taken, most, within)) le so in
    let one : IsSectionLike s = subst IsSectionLike (sym is) (subst (λ (v : Vec ℕ Global). IsSectionLike v.items) (sym at) (like i item within)) in
    let m = ap (λ (ps : List Bytes). length ps) made in
    let k = few_packets e.mux s one in
    omega (arith, n, m, k)

-- one section more of a list
pub one_section : (sections : List (Vec ℕ Global)) (i : ℕ) (item : Vec ℕ Global) (s : Bytes) → i < length sections → item ≡ get_or sections i item → s ≡ item.items
    → map view_bytes (take (i + 1) sections) ≡ map view_bytes (take i sections) ++ s ∷ []
one_section sections i item s lt at is =
    ap (map view_bytes) (take_more sections i item lt) ∙ map-append view_bytes (take i sections) (get_or sections i item ∷ [])
    ∙ ap (λ v. map view_bytes (take i sections) ++ view_bytes v ∷ []) (sym at) ∙ ap (λ b. map view_bytes (take i sections) ++ b ∷ []) (sym is)

-- whatever the packer was before
pub mux_aside : (e u f : DownlinkState) (m : MuxState) (xs : List Bytes) → u ≡ e → Hears (record u { mux = m }) f xs → Hears e f xs
mux_aside e u f m xs same h =
    let as_it_was : Hears u f xs = record { spent = h.spent; one_pid = h.one_pid; demux = h.demux; tuner = h.tuner } in
    subst (λ d. Hears d f xs) same as_it_was

-- ---- the end of the call: all sections were sent, and what was held back where they are the last of the draw

-- all sections of the list
pub all_sections : (d e : DownlinkState) (fates : List Fate) (from number i : ℕ) (sections : List (Vec ℕ Global)) → length sections ≤ i → Sent d e fates from number (map view_bytes (take i sections))
    → Sent d e fates from number (map view_bytes sections)
all_sections d e fates from number i sections le so = subst (λ xs. Sent d e fates from number (map view_bytes xs)) (take_all i sections le) so

pub rest_fits : (d e : DownlinkState) (fates : List Fate) (from number : ℕ) (sections : List (Vec ℕ Global)) → All (λ v. IsSectionLike v.items) sections → length sections ≤ 1048576 → from ≤ 2 ^ 40
    → Sent d e fates from number (map view_bytes sections) → number < 2 ^ 63
rest_fits d e fates from number sections like most le so =
    let n = number_fits d e fates from number (map view_bytes sections) (All-map IsSectionLike view_bytes sections like) (omega (arith, size_map sections, most)) le so in
    omega (arith, n)

pub ended_number : (last : Bool) (d e : DownlinkState) (fates : List Fate) (from number after : ℕ) (sections : List Bytes) → last ≡ true → after ≡ number + length (last_of e.mux) → Sent d e fates from number sections
    → after ≡ from + length (packets_given d.mux sections last)
ended_number last d e fates from number after sections t a so =
    let c = so.count in
    let size : length (packets_of_all d.mux sections ++ last_of (fold past d.mux sections)) ≡ length (packets_of_all d.mux sections) + length (last_of e.mux) =
    length-append (packets_of_all d.mux sections) (last_of (fold past d.mux sections)) ∙ ap (λ x. length (packets_of_all d.mux sections) + length (last_of x)) (sym so.mux) in
    subst (λ b. after ≡ from + length (packets_given d.mux sections b)) (sym t) (omega (arith, a, c, size))

pub ended_mux : (last : Bool) (d e f : DownlinkState) (fates : List Fate) (from number : ℕ) (sections : List Bytes) → last ≡ true → f.mux ≡ after_finish e.mux → Sent d e fates from number sections
    → f.mux ≡ past_given d.mux sections last
ended_mux last d e f fates from number sections t m so = subst (λ b. f.mux ≡ past_given d.mux sections b) (sym t) (m ∙ ap after_finish so.mux)

pub ended_hears : (last : Bool) (d e f : DownlinkState) (fates : List Fate) (from number : ℕ) (sections : List Bytes) → last ≡ true → Hears e f (received_under fates number (last_of e.mux)) → Sent d e fates from number sections
    → Hears d f (received_under fates from (packets_given d.mux sections last))
ended_hears last d e f fates from number sections t h so =
    let first : List Bytes = packets_of_all d.mux sections in
    let came : received_under fates from (first ++ last_of (fold past d.mux sections)) ≡ received_under fates from first ++ received_under fates number (last_of e.mux) =
    received-append fates from first (last_of (fold past d.mux sections)) ∙ ap (λ k. received_under fates from first ++ received_under fates k (last_of (fold past d.mux sections))) (sym so.count)
    ∙ ap (λ x. received_under fates from first ++ received_under fates number (last_of x)) (sym so.mux) in
    subst (λ b. Hears d f (received_under fates from (packets_given d.mux sections b))) (sym t)
    (hears_more d e f (received_under fates from first) (received_under fates number (last_of e.mux)) (received_under fates from (first ++ last_of (fold past d.mux sections))) came so.hears h)

pub begun_number : (last : Bool) (d e : DownlinkState) (fates : List Fate) (from number : ℕ) (sections : List Bytes) → last ≡ false → Sent d e fates from number sections → number ≡ from + length (packets_given d.mux sections last)
begun_number last d e fates from number sections t so = subst (λ b. number ≡ from + length (packets_given d.mux sections b)) (sym t) so.count

pub begun_mux : (last : Bool) (d e : DownlinkState) (fates : List Fate) (from number : ℕ) (sections : List Bytes) → last ≡ false → Sent d e fates from number sections → e.mux ≡ past_given d.mux sections last
begun_mux last d e fates from number sections t so = subst (λ b. e.mux ≡ past_given d.mux sections b) (sym t) so.mux

pub begun_hears : (last : Bool) (d e : DownlinkState) (fates : List Fate) (from number : ℕ) (sections : List Bytes) → last ≡ false → Sent d e fates from number sections → Hears d e (received_under fates from (packets_given d.mux sections last))
begun_hears last d e fates from number sections t so = subst (λ b. Hears d e (received_under fates from (packets_given d.mux sections b))) (sym t) so.hears

-- what follows of an answer
pub weaker : {X E P Q : Type 0} (r : Result X E) → (P → Q) → OnOk r P → OnOk r Q
weaker (Ok x) f p = f p
weaker (Err e) f p = tt

-- what carrying sections gives, whether they are the last of a draw or not
abbrev pub Carries : (e f : DownlinkState) (fates : List Fate) (number : ℕ) (sections : List Bytes) → Bool → Type 0
Carries e f fates number sections last = (pid : ℕ) (groups : List (List Bytes)) (begun packets : List Bytes) → DownlinkStands e pid groups begun packets
    → DownlinkStands f pid (ended_with groups (begun ++ sections) last) (begun_with (begun ++ sections) last) (packets ++ received_under fates number (packets_given e.mux sections last))

pub carries : {E : Type 0} (r : Result ℕ E) (last : Bool) (d e : DownlinkState) (fates : List Fate) (from : ℕ) (sections : List Bytes) → All IsSectionLike sections → OnOk r (e.mux ≡ past_given d.mux sections last)
    → OnOk r (Hears d e (received_under fates from (packets_given d.mux sections last))) → OnOk r (Carries d e fates from sections last)
carries (Ok n) last d e fates from sections like m h = λ pid groups begun packets st. stands_on last d e pid groups begun sections packets (received_under fates from (packets_given d.mux sections last)) like m h st
carries (Err x) last d e fates from sections like m h = tt

-- ---- pieces of a draw

-- what the pieces so far gave
pub record SentSo (d e : DownlinkState) (fates : List Fate) (number : ℕ) (sections : List Bytes) : Type 0 where
  pub count : number ≡ length (packets_of_all d.mux sections)
  pub most : number ≤ 23 * length sections
  pub mux : e.mux ≡ fold past d.mux sections
  pub stands : (pid : ℕ) (groups : List (List Bytes)) (packets : List Bytes) → DownlinkStands d pid groups [] packets
      → DownlinkStands e pid groups sections (packets ++ received_under fates 0 (packets_of_all d.mux sections))

pub none_sent_so : (d : DownlinkState) (fates : List Fate) → SentSo d d fates 0 []
none_sent_so d fates = record {
  count = refl;
  most = omega arith;
  mux = refl;
  stands = λ pid groups packets st. subst (DownlinkStands d pid groups []) (sym (append-nil packets)) st;
}

-- packets of sections after others of the same draw
later_packets : (d e : DownlinkState) (fates : List Fate) (number : ℕ) (sections packets : List Bytes) → SentSo d e fates number sections
    → received_under fates 0 (packets_of_all d.mux sections ++ packets) ≡ received_under fates 0 (packets_of_all d.mux sections) ++ received_under fates number packets
later_packets d e fates number sections packets so =
    let first : List Bytes = packets_of_all d.mux sections in
    received-append fates 0 first packets ∙ ap (λ k. received_under fates 0 first ++ received_under fates k packets) (zero-add (length first) ∙ sym so.count)

pub piece_sent : (last : Bool) (d e f : DownlinkState) (fates : List Fate) (number after : ℕ) (sections piece more : List Bytes) → last ≡ false → more ≡ sections ++ piece → All IsSectionLike piece
    → after ≡ number + length (packets_given e.mux piece last) → f.mux ≡ past_given e.mux piece last → Carries e f fates number piece last
    → SentSo d e fates number sections → SentSo d f fates after more
piece_sent last d e f fates number after sections piece more t m like a x on so =
    let first : List Bytes = packets_of_all d.mux sections in
    let behind : List Bytes = packets_of_all e.mux piece in
    let count : after ≡ number + length behind = subst (λ b. after ≡ number + length (packets_given e.mux piece b)) t a in
    let mux : f.mux ≡ fold past e.mux piece = subst (λ b. f.mux ≡ past_given e.mux piece b) t x in
    let goes : Carries e f fates number piece false = subst (Carries e f fates number piece) t on in
    let all : packets_of_all d.mux more ≡ first ++ behind = ap (packets_of_all d.mux) m ∙ packets_of_all-append d.mux sections piece ∙ ap (λ y. first ++ packets_of_all y piece) (sym so.mux) in
    let size : length (packets_of_all d.mux more) ≡ length first + length behind = ap (λ (ps : List Bytes). length ps) all ∙ length-append first behind in
    let came : received_under fates 0 (packets_of_all d.mux more) ≡ received_under fates 0 first ++ received_under fates number behind = ap (received_under fates 0) all ∙ later_packets d e fates number sections behind so in
    let parts : length more ≡ length sections + length piece = ap (λ (ss : List Bytes). length ss) m ∙ length-append sections piece in
    let bound : length behind ≤ 23 * length piece = few e.mux piece like in
    record {
      count = let c = so.count in omega (arith, count, c, size);
      most = let c = so.most in omega (arith, count, c, bound, parts);
      mux = mux ∙ ap (λ y. fold past y piece) so.mux ∙ sym (fold-append past d.mux sections piece) ∙ ap (fold past d.mux) (sym m);
      stands = λ pid groups packets st.
          let end : DownlinkStands f pid groups (sections ++ piece) ((packets ++ received_under fates 0 first) ++ received_under fates number behind) =
          goes pid groups sections (packets ++ received_under fates 0 first) (so.stands pid groups packets st) in
          subst (λ ss. DownlinkStands f pid groups ss (packets ++ received_under fates 0 (packets_of_all d.mux more))) (sym m)
          (subst (DownlinkStands f pid groups (sections ++ piece)) (append_assoc packets (received_under fates 0 first) (received_under fates number behind) ∙ ap (λ ps. packets ++ ps) (sym came)) end);
    }

-- the last piece: the draw's sections are a group
pub draw_sent : (last : Bool) (d e f : DownlinkState) (fates : List Fate) (number : ℕ) (sections piece all : List Bytes) → last ≡ true → all ≡ sections ++ piece → All IsSectionLike piece
    → Carries e f fates number piece last → SentSo d e fates number sections
    → (pid : ℕ) (groups : List (List Bytes)) (packets : List Bytes) → DownlinkStands d pid groups [] packets
    → DownlinkStands f pid (groups ++ all ∷ []) [] (packets ++ received_under fates 0 (packets_of_group d.mux all))
draw_sent last d e f fates number sections piece all t m like on so pid groups packets st =
    let first : List Bytes = packets_of_all d.mux sections in
    let behind : List Bytes = packets_of_all e.mux piece ++ last_of (fold past e.mux piece) in
    let goes : Carries e f fates number piece true = subst (Carries e f fates number piece) t on in
    let mid : DownlinkStands e pid groups sections (packets ++ received_under fates 0 first) = so.stands pid groups packets st in
    let end : DownlinkStands f pid (groups ++ (sections ++ piece) ∷ []) [] ((packets ++ received_under fates 0 first) ++ received_under fates number behind) =
    goes pid groups sections (packets ++ received_under fates 0 first) mid in
    let begins : IsBetween d.mux = subst IsBetween (sym st.mux) (between_groups pid groups) in
    let framed : All IsSectionLike (sections ++ piece) = All-append IsSectionLike sections piece mid.like like in
    let steps : fold past d.mux (sections ++ piece) ≡ fold past e.mux piece = fold-append past d.mux sections piece ∙ ap (λ y. fold past y piece) (sym so.mux) in
    let group : packets_of_group d.mux (sections ++ piece) ≡ first ++ behind =
    sym (calls_give d.mux (sections ++ piece) begins framed).0
    ∙ ap (λ xs. xs ++ last_of (fold past d.mux (sections ++ piece))) (packets_of_all-append d.mux sections piece ∙ ap (λ y. first ++ packets_of_all y piece) (sym so.mux))
    ∙ append_assoc first (packets_of_all e.mux piece) (last_of (fold past d.mux (sections ++ piece))) ∙ ap (λ y. first ++ (packets_of_all e.mux piece ++ last_of y)) steps in
    let came : received_under fates 0 (packets_of_group d.mux (sections ++ piece)) ≡ received_under fates 0 first ++ received_under fates number behind =
    ap (received_under fates 0) group ∙ later_packets d e fates number sections behind so in
    subst (λ ss. DownlinkStands f pid (groups ++ ss ∷ []) [] (packets ++ received_under fates 0 (packets_of_group d.mux ss))) (sym m)
    (subst (DownlinkStands f pid (groups ++ (sections ++ piece) ∷ []) []) (append_assoc packets (received_under fates 0 first) (received_under fates number behind) ∙ ap (λ ps. packets ++ ps) (sym came)) end)
