-- A receiver that seeks its PID takes one packet more.
use Rattle.std.proofs.Common.{◌≡◌, ℕ, zero, suc, ◌≤◌, List, [], ◌∷◌, ◌++◌, length, take, drop, Option, Some, None, refl, sym, ap, ◌∙◌, arith, subst, length-append}
use Rattle.std.proofs.lemmas.List.{take_all, take-append-le, drop-append-le, drop_all}
use Rattle.section_stream.specs.Cuts.{candidates}
use Rattle.section_stream.specs.Rules as streams
use Rattle.tuner_core.specs.Stands as tuners
use Rattle.psi_tables.specs.declared.finder.Find.{Find}
use Rattle.psi_tables.specs.declared.finder.Find.TheVariants.{NoPat, NotNamed, At}
use Rattle.psi_tables.specs.Finding.{found_in}
use Rattle.psi_tables.specs.Stands as finders
use Rattle.shell_streams.specs.Cuts.{Bytes}
use Rattle.shell_streams.specs.Carriers.{all_packets, HeardAll}
use Rattle.shell_streams.proofs.CallerLemmas.{told_weaker}
use Rattle.receiver_commands.specs.OpenId.{found_after, or_then, found_within, first_found, sections_after, sections_among, sections_by_id}
use Rattle.receiver_commands.specs.Inner.Seeking.{Seeks, Hears, IsAt, HasHeard}
use Rattle.receiver_commands.specs.declared.open_id.Seeker.{Seeker}

-- ---- where it is found, with one packet more

same_front : (packets : List Bytes) (p : Bytes) (n : ℕ) → n ≤ length packets → take n (packets ++ p ∷ []) ≡ take n packets
same_front packets p n h = take-append-le n packets (p ∷ []) h

within_more : (carousel : ℕ) (packets : List Bytes) (p : Bytes) (n : ℕ) → n ≤ length packets → found_within carousel (packets ++ p ∷ []) n ≡ found_within carousel packets n
within_more carousel packets p zero h = refl
within_more carousel packets p (suc n) h =
    ap (λ o. or_then o (found_after (suc n) (found_in carousel (take (suc n) (packets ++ p ∷ []))))) (within_more carousel packets p n (omega arith))
    ∙ ap (λ ps. or_then (found_within carousel packets n) (found_after (suc n) (found_in carousel ps))) (same_front packets p (suc n) h)

first_more : (carousel : ℕ) (packets : List Bytes) (p : Bytes) → first_found carousel (packets ++ p ∷ [])
    ≡ or_then (first_found carousel packets) (found_after (suc (length packets)) (found_in carousel (packets ++ p ∷ [])))
first_more carousel packets p =
    let all = packets ++ p ∷ [] in
    let e : length all ≡ suc (length packets) = omega (arith, length-append packets (p ∷ [])) in
    ap (found_within carousel all) e
    ∙ ap (λ o. or_then o (found_after (suc (length packets)) (found_in carousel (take (suc (length packets)) all)))) (within_more carousel packets p (length packets) (omega arith))
    ∙ ap (λ ps. or_then (first_found carousel packets) (found_after (suc (length packets)) (found_in carousel ps))) (take_all (suc (length packets)) all (omega (arith, e)))

-- ---- which stage it is at

pub none_yet : (carousel : ℕ) (finder : finders.FinderState) (packets : List Bytes) (stream : Option streams.DemuxState) (first : Option (ℕ × ℕ)) → stream ≡ None
    → IsAt carousel finder packets stream first → Seeks carousel finder packets × (first ≡ None)
none_yet carousel finder packets None None e h = (h, refl)
none_yet carousel finder packets None (Some x) e h = absurd h
none_yet carousel finder packets (Some d) first e h = cc

pub some_since : (carousel : ℕ) (finder : finders.FinderState) (packets : List Bytes) (stream : Option streams.DemuxState) (demux : streams.DemuxState) (first : Option (ℕ × ℕ))
    → stream ≡ Some demux → IsAt carousel finder packets stream first → (x : ℕ × ℕ) × (first ≡ Some x) × Hears demux packets x.0 x.1
some_since carousel finder packets stream demux None e h = absurd (no_stage stream e h)
  where
    no_stage : (stream : Option streams.DemuxState) → stream ≡ Some demux → IsAt carousel finder packets stream None → ⊥
    no_stage None e h = cc
    no_stage (Some d) e h = h
some_since carousel finder packets stream demux (Some x) e h = (x, refl, subst (λ (o : Option streams.DemuxState). IsAt carousel finder packets o (Some x)) e h)

pub not_at : (n : ℕ) (f : Find) → ((pid : ℕ) → f ≡ At pid → ⊥) → found_after n f ≡ None
not_at n NoPat h = refl
not_at n NotNamed h = refl
not_at n (At pid) h = absurd (h pid refl)

-- its own carousel is the one that is sought as long as it seeks
pub seeks_its_own : (carousel : ℕ) (old new : Seeker) (packets more : List Bytes) → old.stream ≡ None
    → (HasHeard old.finder.directory.carousel old packets → HasHeard old.finder.directory.carousel new more) → HasHeard carousel old packets → HasHeard carousel new more
seeks_its_own carousel old new packets more e step h =
    let s = none_yet carousel old.finder packets old.stream (first_found carousel packets) e h.is_at in
    let O : ℕ → Type 0 = λ k. HasHeard k old packets in
    let N : ℕ → Type 0 = λ k. HasHeard k new more in
    subst N s.0.carousel_is (step (subst O (sym s.0.carousel_is) h))

-- ---- before it is found

still : (carousel : ℕ) (finder : finders.FinderState) (packets : List Bytes) (p : Bytes) (f : Find) → first_found carousel packets ≡ None → found_in carousel (packets ++ p ∷ []) ≡ f
    → first_found carousel (packets ++ p ∷ []) ≡ found_after (suc (length packets)) f
still carousel finder packets p f none e =
    first_more carousel packets p ∙ ap (λ o. or_then o (found_after (suc (length packets)) (found_in carousel (packets ++ p ∷ [])))) none ∙ ap (found_after (suc (length packets))) e

no_sections : (pid : ℕ) (packets : List Bytes) (p : Bytes) → candidates pid (drop (suc (length packets)) (packets ++ p ∷ [])) ≡ []
no_sections pid packets p =
    let all : length (packets ++ p ∷ []) ≤ suc (length packets) = omega (arith, length-append packets (p ∷ [])) in
    ap (candidates pid) (drop_all (suc (length packets)) (packets ++ p ∷ []) all)

-- no sections were heard, and none are
unheard : (packets : List Bytes) (p : Bytes) (f : Find) → sections_after (packets ++ p ∷ []) (found_after (suc (length packets)) f) ≡ []
unheard packets p NoPat = refl
unheard packets p NotNamed = refl
unheard packets p (At pid) = no_sections pid packets p

receiver_waits : (carousel : ℕ) (t : tuners.TunerState) (packets : List Bytes) (p : Bytes) (f : Find) → first_found carousel packets ≡ None
    → first_found carousel (packets ++ p ∷ []) ≡ found_after (suc (length packets)) f → tuners.StandsFor t (sections_among carousel packets)
    → tuners.StandsFor t (sections_among carousel (packets ++ p ∷ []))
receiver_waits carousel t packets p f none first h =
    let P : List Bytes → Type 0 = λ ss. tuners.StandsFor t ss in
    subst P (ap (sections_after packets) none ∙ sym (unheard packets p f) ∙ ap (sections_after (packets ++ p ∷ [])) (sym first)) h

-- it isn't found by this packet either
pub seeks_on : (carousel : ℕ) (old new : Seeker) (packets : List Bytes) (p : Bytes) → old.stream ≡ None → new.stream ≡ old.stream → new.receiver ≡ old.receiver
    → new.finder.directory.carousel ≡ old.finder.directory.carousel → (finders.StandsFor old.finder packets → finders.StandsFor new.finder (packets ++ p ∷ []))
    → (f : Find) → found_after (suc (length packets)) f ≡ None → (finders.StandsFor new.finder (packets ++ p ∷ []) → f ≡ found_in carousel (packets ++ p ∷ []))
    → HasHeard carousel old packets → HasHeard carousel new (packets ++ p ∷ [])
seeks_on carousel old new packets p e same_stream same_receiver same_carousel stands f nowhere is h =
    let s = none_yet carousel old.finder packets old.stream (first_found carousel packets) e h.is_at in
    let on = stands s.0.stands in
    let first = still carousel new.finder packets p f s.1 (sym (is on)) in
    let R : tuners.TunerState → Type 0 = λ t. tuners.StandsFor t (sections_among carousel (packets ++ p ∷ [])) in
    record {
      is_at = rw (same_stream ∙ e, first ∙ nowhere) (record { carousel_is = same_carousel ∙ s.0.carousel_is; stands = on });
      receiver = subst R (sym (ap (λ r. r.tuner) same_receiver)) (receiver_waits carousel old.receiver.tuner packets p f s.1 first h.receiver);
    }

-- it is found by this one
pub finds_now : (carousel : ℕ) (old new : Seeker) (demux : streams.DemuxState) (pid : ℕ) (packets : List Bytes) (p : Bytes) (finder : finders.FinderState) → old.stream ≡ None
    → new.stream ≡ Some demux → new.receiver ≡ old.receiver → demux.pid ≡ pid → streams.StandsFor demux []
    → (finders.StandsFor old.finder packets → finders.StandsFor finder (packets ++ p ∷ []))
    → (finders.StandsFor finder (packets ++ p ∷ []) → At pid ≡ found_in carousel (packets ++ p ∷ []))
    → HasHeard carousel old packets → HasHeard carousel new (packets ++ p ∷ [])
finds_now carousel old new demux pid packets p finder e stream same_receiver same_pid fresh stands is h =
    let s = none_yet carousel old.finder packets old.stream (first_found carousel packets) e h.is_at in
    let first = still carousel finder packets p (At pid) s.1 (sym (is (stands s.0.stands))) in
    let all : length (packets ++ p ∷ []) ≡ suc (length packets) = omega (arith, length-append packets (p ∷ [])) in
    let none : drop (suc (length packets)) (packets ++ p ∷ []) ≡ [] = drop_all (suc (length packets)) (packets ++ p ∷ []) (omega (arith, all)) in
    let S : List Bytes → Type 0 = λ ps. streams.StandsFor demux ps in
    let R : tuners.TunerState → Type 0 = λ t. tuners.StandsFor t (sections_among carousel (packets ++ p ∷ [])) in
    record {
      is_at = rw (stream, first) (record { pid_is = same_pid; within = omega (arith, all); stands = subst S (sym none) fresh });
      receiver = subst R (sym (ap (λ r. r.tuner) same_receiver)) (receiver_waits carousel old.receiver.tuner packets p (At pid) s.1 first h.receiver);
    }

-- ---- since it is found

drop_then : (n : ℕ) (packets : List Bytes) (p : Bytes) → n ≤ length packets → drop n (packets ++ p ∷ []) ≡ drop n packets ++ p ∷ []
drop_then n packets p h = drop-append-le n packets (p ∷ []) h

pub hears_on : (carousel : ℕ) (old new : Seeker) (before after : streams.DemuxState) (packets : List Bytes) (p : Bytes) (out : List Bytes) → old.stream ≡ Some before → new.stream ≡ Some after
    → after.pid ≡ before.pid → ((ps : List Bytes) → streams.StandsFor before ps → streams.StandsFor after (ps ++ p ∷ []))
    → ((ps : List Bytes) → streams.StandsFor before ps → candidates before.pid (ps ++ p ∷ []) ≡ candidates before.pid ps ++ out)
    → ((ss : List Bytes) → tuners.StandsFor old.receiver.tuner ss → tuners.StandsFor new.receiver.tuner (ss ++ out))
    → HasHeard carousel old packets → HasHeard carousel new (packets ++ p ∷ [])
hears_on carousel old new before after packets p out is is_after same_pid stands cuts heard h =
    let s = some_since carousel old.finder packets old.stream before (first_found carousel packets) is h.is_at in
    let since = s.2 in
    let first : first_found carousel (packets ++ p ∷ []) ≡ Some s.0 =
    first_more carousel packets p ∙ ap (λ o. or_then o (found_after (suc (length packets)) (found_in carousel (packets ++ p ∷ [])))) s.1 in
    let rest = drop_then s.0.0 packets p since.within in
    let S : List Bytes → Type 0 = λ ps. streams.StandsFor after ps in
    let T : List Bytes → Type 0 = λ ss. tuners.StandsFor old.receiver.tuner ss in
    let R : List Bytes → Type 0 = λ ss. tuners.StandsFor new.receiver.tuner ss in
    let more : candidates s.0.1 (drop s.0.0 (packets ++ p ∷ [])) ≡ candidates s.0.1 (drop s.0.0 packets) ++ out =
    ap (candidates s.0.1) rest ∙ ap (λ q. candidates q (drop s.0.0 packets ++ p ∷ [])) (sym since.pid_is) ∙ cuts (drop s.0.0 packets) since.stands
    ∙ ap (λ q. candidates q (drop s.0.0 packets) ++ out) since.pid_is in
    record {
      is_at = rw (is_after, first) (record {
        pid_is = same_pid ∙ since.pid_is;
        within = omega (arith, since.within, length-append packets (p ∷ []));
        stands = subst S (sym rest) (stands (drop s.0.0 packets) since.stands);
      });
      receiver = subst R (sym (ap (sections_after (packets ++ p ∷ [])) first ∙ more))
          (heard (candidates s.0.1 (drop s.0.0 packets)) (subst T (ap (sections_after packets) s.1) h.receiver));
    }

-- ---- all packets of an input

pub heard_by_id : (carousel : ℕ) (now : Seeker) (before after : Option Bytes) → HeardAll all_packets (HasHeard carousel now) before after
    → HeardAll (sections_by_id carousel) (λ sections. tuners.StandsFor now.receiver.tuner sections) before after
heard_by_id carousel now before after h = record {
  taken = sections_among carousel h.taken;
  told = told_weaker h.told (λ x y t. record { to_end = t.to_end; within = t.within; all = ap (sections_among carousel) t.all });
  heard = h.heard.receiver;
}

-- ---- the start

pub seeks_first : (carousel : ℕ) (s : Seeker) → s.stream ≡ None → s.finder.directory.carousel ≡ carousel → finders.StandsFor s.finder [] → tuners.StandsFor s.receiver.tuner [] → HasHeard carousel s []
seeks_first carousel s e c f t = record { is_at = rw e (record { carousel_is = c; stands = f }); receiver = t }
