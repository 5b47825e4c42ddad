-- What the readers opened, by the drawings that their shots had heard; and that what was played is a session.
use Rattle.session.proofs.Words.{◌≡◌, ℕ, suc, ◌≤◌, true, List, [], ◌∷◌, ◌++◌, length, filter, drop, get_or, count_by, ◌⊎◌, inl, inr, sym, ap, ◌∙◌, refl, subst, arith, ◌≢◌, zero, ◌+◌, ◌<◌, ◌==◌, Bool, false, cond, map, Some, slice_get, nat_eq, ne_eqb, length-map, Edit, Fate, Shot, ReaderView, AllAnswered, Answered, ArePublishable, HistoriesGrow, CatalogueState, is_draw, trees_of, Entry, Commit, Draw, Open, Step, Drawing, MeetsHeadline, world_after, EverySettledRunIsWhole, EverySettledRunOpens, OpenEntry, Each, merge_of, drawn_with, opened_of, drawings_after, AreAnswered, IsRunOfWorld, candidates_after, IsAnswered, is_draw_step, is_open_by, IsPlaced, IsInOrder, AreParts, IsReady, IsMerged, EveryMergeIsMerged, AreNumbers, merged_is_published, count_more, count_same, Fields, events_of, DrawFields, AreShots, AreOpened, Asked, Rises, script_of_parts, AreListed, IsInRanges, IsActor, AreActors, commits_by, draws_in, asked_of, settles, asked_in, AreCommitted, AreKnown, AreOnShots, IsShown, EndsSettled, IsSession, IsPlayed, fates_of, PlayedIsASession, HasRead, whose, eqb-false, AllByRecursion, IsDistinct, All-get_or, view, Snapshot, snapshot_after, answer_after, Reply}
use Rattle.generation_catalogue.specs.declared.entry.Entry.TheVariants as entries
use Rattle.history_merge.specs.Merged.{with_draws_before, NeverFall, AreApart}
use Rattle.history_merge.specs.Merging.{opens_by}
use Rattle.session.proofs.Feeding.{fates_in, asked_by}
use Rattle.session.proofs.Telling.{Told, Tells, merge_tells, none_of_other}
use Rattle.session.proofs.Committed.{committed, HasPlace, HasNone, find_place, place_mapped}
use Rattle.session.proofs.Parted.{EndsDrawn, none_of_editor, none_of_reader, settles_last}
use Rattle.session.proofs.InPlace.{opens_in_place}
use Rattle.session.proofs.Settled.{steps, draws_filtered, ends_settled, ends_whole, ends_answered}
use Rattle.std.proofs.lemmas.Bool.{cases_order}
use Rattle.std.proofs.lemmas.Map.Keys.{IsDistinct-head, IsDistinct-tail, apart_from_distinct}
use Rattle.path_resolver.specs.Resolving.{answer_of}
use Rattle.carousel_world.specs.Receptions.{label_after}

-- ---- one open, on the shot of its number

pub record IsHeard (drawings : List Drawing) (e : OpenEntry) : Type 0 where
  pub draws : e.draws ≡ e.shot
  pub answered : IsAnswered drawings e

heard_on : (drawings : List Drawing) (shots : List Shot) (e : OpenEntry) → AreShots drawings shots → Answered shots e → IsHeard drawings e
heard_on drawings shots e are h = let same : view h.0 ≡ snapshot_after e.shot e.shot (candidates_after drawings e.shot) = are.each e.shot h.0 h.1 in
    let draws : e.draws ≡ e.shot = h.3 ∙ ap (λ (s : Snapshot). s.draws) same in record {
      draws = draws;
      answered = (
        subst (λ (k : ℕ). e.label ≡ label_after (candidates_after drawings k)) (sym draws) (h.4 ∙ ap (λ (s : Snapshot). s.held.label) same),
        subst (λ (k : ℕ). e.answer ≡ answer_after (candidates_after drawings k) e.path) (sym draws) (h.5 ∙ ap (λ (s : Snapshot). answer_of s.held e.path) same),
      );
    }

all_heard : (drawings : List Drawing) (shots : List Shot) → AreShots drawings shots → (es : List OpenEntry) → AllAnswered shots es → Each (IsHeard drawings) es
all_heard drawings shots are [] h = tt
all_heard drawings shots are (e ∷ es) h = (heard_on drawings shots e are h.0, all_heard drawings shots are es h.1)

all_answered : (drawings : List Drawing) (es : List OpenEntry) → Each (IsHeard drawings) es → Each (IsAnswered drawings) es
all_answered drawings [] h = tt
all_answered drawings (e ∷ es) h = ((h.0).answered, all_answered drawings es h.1)

-- ---- counts of draws never fall

rises_le : (first : ℕ) (es : List OpenEntry) (last : ℕ) → Rises first es last → first ≤ last
rises_le first [] last h = h
rises_le first (e ∷ es) last h = let low = h.0 in let high = rises_le (e.shot + 1) es last h.1 in omega (arith, low, high)

never : (drawings : List Drawing) (b first last : ℕ) (es : List OpenEntry) → ((n : ℕ) → first ≤ n + 1 → b ≤ n) → Each (IsHeard drawings) es → Rises first es (last + 1)
    → NeverFall b last es
never drawings b first last [] low h r = tt
never drawings b first last (e ∷ es) low h r = let here = (h.0).draws in let least = low e.shot r.0 in let most = rises_le (e.shot + 1) es (last + 1) r.1 in
    (omega (arith, here, least), omega (arith, here, most), never drawings e.draws (e.shot + 1) last es (λ n k. omega (arith, here, k)) h.1 r.1)

-- ---- each reader

-- a reader's opens as events, each with the draws that its shot had heard
abbrev pub told_by : ℕ → List OpenEntry → List (ℕ × (Step × Reply))
told_by reader es = map (λ (o : OpenEntry). (o.draws, opened_of reader o)) es

module _ (script : Fields) (drawings : List Drawing) (shots : List Shot) (are : AreShots drawings shots) where
  in_order_one : (v : ReaderView) → IsActor v.reader → HasRead script shots v → IsInOrder (length drawings) v
  in_order_one v actor h = let count : length v.known ≡ length drawings + 1 = ap length h.known ∙ are.count in record {
    some = actor.at_least;
    most = actor.at_most;
    rising = never drawings 0 0 (length drawings) v.opens (λ n k. omega arith) (all_heard drawings shots are v.opens h.answered) (subst (λ (n : ℕ). Rises 0 v.opens n) count (h.opened).rises);
  }

  pub in_order : (vs : List ReaderView) → Each (HasRead script shots) vs → ((p : ℕ) → p < length (whose vs) → IsActor (get_or (whose vs) p 0)) → Each (IsInOrder (length drawings)) vs
  in_order [] h actor = tt
  in_order (v ∷ vs) h actor = (in_order_one v (actor 0 (omega arith)) h.0, in_order vs h.1 (λ p less. actor (suc p) (omega (arith, less))))

  pub are_answered : (vs : List ReaderView) → Each (HasRead script shots) vs → AreAnswered drawings vs
  are_answered [] h = tt
  are_answered (v ∷ vs) h = (all_answered drawings v.opens (all_heard drawings shots are v.opens (h.0).answered), are_answered vs h.1)

  -- what a reader was asked for is told, in order
  pub told_opens : (reader : ℕ) (asked : List Asked) (es : List OpenEntry) → AreOpened asked es → AllAnswered shots es → AreKnown reader asked (told_by reader es)
  told_opens reader [] [] h a = tt
  told_opens reader [] (e ∷ es) h a = absurd h
  told_opens reader (ask ∷ asked) [] h a = absurd h
  told_opens reader (ask ∷ asked) (e ∷ es) h a = let here = (heard_on drawings shots e are a.0).draws in let least = h.1 in
      (ap (Open reader) h.0, omega (arith, here, least), told_opens reader asked es h.2 a.1)

  -- and stands on the shot of so many draws as are before it
  pub on_shots : (reader : ℕ) (es : List OpenEntry) → AllAnswered shots es → AreOnShots shots (told_by reader es)
  on_shots reader [] h = tt
  on_shots reader (e ∷ es) h = let s = h.0 in ((s.0, ap (slice_get shots) ((heard_on drawings shots e are s).draws) ∙ s.1, s.4, s.5), on_shots reader es h.1)

-- ---- numbers

pub apart_numbers : (xs : List ℕ) → IsDistinct nat_eq xs → (i j : ℕ) → i < length xs → j < length xs → get_or xs i 0 ≡ get_or xs j 0 → i ≡ j
apart_numbers xs d i j h k e = by (cases_order i j)
  where
    by : (i ≡ j) ⊎ ((i < j) ⊎ (j < i)) → i ≡ j
    by (inl same) = same
    by (inr (inl less)) = absurd (eqb-false (get_or xs i 0) (get_or xs j 0) (apart_from_distinct nat_eq xs i j 0 d less k) e)
    by (inr (inr more)) = absurd (eqb-false (get_or xs j 0) (get_or xs i 0) (apart_from_distinct nat_eq xs j i 0 d more h) (sym e))

pub actor_at : (xs : List ℕ) → AreActors xs → (p : ℕ) → p < length xs → IsActor (get_or xs p 0)
actor_at xs a p less = All-get_or IsActor xs p 0 less a.each

pub are_numbers : (xs : List ℕ) → AreActors xs → AreNumbers xs
are_numbers xs a = record { some = λ i less. (actor_at xs a i less).at_least; most = λ i less. (actor_at xs a i less).at_most; apart = apart_numbers xs a.once }

-- the reader of the number at a place
pub reader_at : (P : ReaderView → Type 0) (vs : List ReaderView) → Each P vs → (p : ℕ) → p < length (whose vs) → (v : ReaderView) × (slice_get vs p ≡ Some v) × (v.reader ≡ get_or (whose vs) p 0) × P v
reader_at P [] h p less = absurd (omega (arith, less))
reader_at P (v ∷ vs) h zero less = (v, refl, refl, h.0)
reader_at P (v ∷ vs) h (suc p) less = reader_at P vs h.1 p (omega (arith, less))

others : (r : ℕ) (vs : List ReaderView) → AllByRecursion (λ y. nat_eq r y ≡ false) (whose vs) → Each (λ (q : ReaderView). q.reader ≢ r) vs
others r [] d = tt
others r (v ∷ vs) d = (λ e. eqb-false r v.reader d.0 (sym e), others r vs d.1)

pub are_apart : (vs : List ReaderView) → IsDistinct nat_eq (whose vs) → AreApart vs
are_apart [] d = tt
are_apart (v ∷ vs) d = (others v.reader vs (IsDistinct-head nat_eq v.reader (whose vs) d), are_apart vs (IsDistinct-tail nat_eq v.reader (whose vs) d))

-- a number that is no reader's has no opens
pub none_opened : (vs : List ReaderView) (reader : ℕ) → HasNone (whose vs) reader → opens_by reader vs ≡ []
none_opened [] reader lacks = refl
none_opened (v ∷ vs) reader lacks = let other : (v.reader == reader) ≡ false = ne_eqb v.reader reader (lacks 0 (omega arith)) in
    ap (λ (b : Bool). cond b v.opens [] ++ opens_by reader vs) other ∙ none_opened vs reader (λ p less. lacks (suc p) (omega (arith, less)))

-- ---- what was played is a session

-- ---- draws

draws_with : (editors : List ℕ) (lines : List DrawFields) (es : List Entry) → asked_in es ≡ asked_by lines → draws_in (steps (drawn_with editors (fates_in lines) (filter is_draw es))) ≡ lines
draws_with editors [] [] h = refl
draws_with editors (l ∷ lines) [] h = absurd (cc)
draws_with editors lines (entries.Commit editor edits outcome ∷ es) h = draws_with editors lines es h
draws_with editors [] (entries.Draw asked generation first count ∷ es) h = absurd (cc)
draws_with editors (l ∷ lines) (entries.Draw asked generation first count ∷ es) h = let same : asked ≡ l.asked = cc in
    let rest = draws_with editors lines es (cc) in λ i. record { asked = same i; fates = l.fates } ∷ rest i

asked_count : (es : List Entry) → length (asked_in es) ≡ count_by is_draw es
asked_count [] = refl
asked_count (entries.Commit editor edits outcome ∷ es) = asked_count es ∙ sym (count_same is_draw (entries.Commit editor edits outcome) es refl)
asked_count (entries.Draw asked generation first count ∷ es) = ap suc (asked_count es) ∙ sym (count_more is_draw (entries.Draw asked generation first count) es refl)

drawings_count : (id : ℕ) (ws : List ℕ) (before : List Entry) (fates : List (List Fate)) (es : List Entry) → length (drawings_after id ws before fates es) ≡ count_by is_draw es
drawings_count id ws before fates [] = refl
drawings_count id ws before fates (entries.Commit editor edits outcome ∷ es) =
    drawings_count id ws (before ++ entries.Commit editor edits outcome ∷ []) fates es ∙ sym (count_same is_draw (entries.Commit editor edits outcome) es refl)
drawings_count id ws before fates (entries.Draw asked generation first count ∷ es) =
    ap suc (drawings_count id ws (before ++ entries.Draw asked generation first count ∷ []) (drop 1 fates) es) ∙ sym (count_more is_draw (entries.Draw asked generation first count) es refl)

-- ---- the parts of what was played

module _ (script : Fields) (c : CatalogueState) (drawings : List Drawing) (shots : List Shot) (readers : List ReaderView) (ranges : IsInRanges script) (listed : AreListed script)
    (last : settles script ≡ true → EndsDrawn (draws_in (events_of script))) (p : IsPlayed script c drawings shots readers) where
  abbrev lines : List DrawFields
  lines = draws_in (events_of script)

  abbrev merge : List Told
  merge = merge_of script.editors readers (fates_of script) c.entries

  drawn_count : length drawings ≡ count_by is_draw c.entries
  drawn_count = ap length (sym (p.gathered).drawn) ∙ drawings_count c.carousel c.weights [] (fates_of script) c.entries

  line_count : length lines ≡ count_by is_draw c.entries
  line_count = sym (length-map lines (λ (d : DrawFields). d.asked)) ∙ ap length (sym (p.gathered).asked) ∙ asked_count c.entries

  are_placed : Each (IsPlaced (length script.editors)) c.entries
  are_placed = subst (λ (n : ℕ). Each (IsPlaced n) c.entries) (length-map script.editors (λ (editor : ℕ). commits_by editor (events_of script))) (p.gathered).placed

  actors : AreActors (whose readers)
  actors = subst AreActors (sym p.readers_are) ranges.readers

  pub parts : AreParts c.entries (fates_of script) script.editors readers
  parts = record {
    drawn = length-map lines (λ (d : DrawFields). d.fates) ∙ line_count;
    placed = are_placed;
    in_order = subst (λ (n : ℕ). Each (IsInOrder n) readers) drawn_count (in_order script drawings shots p.shown readers p.read (actor_at (whose readers) actors));
    apart = are_apart readers actors.once;
  }

  ready : IsReady c script.editors (fates_of script) readers
  ready = record {
    history = (p.gathered).history;
    parts = parts;
    numbers = are_numbers script.editors ranges.editors;
    answered = subst (λ (ds : List Drawing). AreAnswered ds readers) (sym (p.gathered).drawn) (are_answered script drawings shots p.shown readers p.read);
  }

  tells : Tells script.editors c.entries merge
  tells = merge_tells script.editors readers (fates_of script) c.entries are_placed

  commits : (editor : ℕ) → AreCommitted editor [] (commits_by editor (events_of script)) merge
  commits editor = by (find_place script.editors editor)
    where
      by : HasPlace script.editors editor ⊎ HasNone script.editors editor → AreCommitted editor [] (commits_by editor (events_of script)) merge
      by (inl h) = subst (λ (n : ℕ). AreCommitted n [] (commits_by n (events_of script)) merge) h.2
          (committed script.editors ready.numbers h.0 h.1 (commits_by (get_or script.editors h.0 0) (events_of script)) [] c.entries [] merge refl tells
          ((p.gathered).commits h.0 (commits_by (get_or script.editors h.0 0) (events_of script)) (place_mapped (λ (e : ℕ). commits_by e (events_of script)) script.editors h.0 h.1)))
      by (inr lacks) =
          subst (λ (ls : List (List Edit)). AreCommitted editor [] ls merge) (sym (none_of_editor script listed editor lacks)) (none_of_other script.editors editor lacks c.entries merge tells)

  module _ (m : IsMerged c script.editors (fates_of script) readers merge) where
    draws : draws_in (steps merge) ≡ lines
    draws = draws_filtered merge ∙ ap (λ (l : List Told). draws_in (steps l)) m.draws ∙ draws_with script.editors lines c.entries (p.gathered).asked

    -- what is true of a reader's opens as it made them, with the draws that their shots had heard, is true of them in the history
    of_reader : (P : List (ℕ × Told) → Type 0) (reader : ℕ) → 1 ≤ reader → reader ≤ 64
        → ((os : List OpenEntry) → AreOpened (asked_of reader script) os → AllAnswered shots os → P (told_by reader os)) → (HasNone script.readers reader → P [])
        → P (with_draws_before (λ (x : Told). is_open_by reader x.0) (λ (x : Told). is_draw_step x.0) 0 merge)
    of_reader P reader some most made none = subst P (sym (m.opens reader some most)) (by (find_place (whose readers) reader))
      where
        by : HasPlace (whose readers) reader ⊎ HasNone (whose readers) reader → P (told_by reader (opens_by reader readers))
        by (inl h) = let r = reader_at (HasRead script shots) readers p.read h.0 h.1 in let v : ReaderView = r.0 in
            let its : opens_by reader readers ≡ v.opens = ap (λ (n : ℕ). opens_by n readers) (sym (r.2 ∙ h.2)) ∙ m.own h.0 v r.1 in
            subst (λ (os : List OpenEntry). P (told_by reader os)) (sym its) (made v.opens (subst (λ (n : ℕ). AreOpened (asked_of n script) v.opens) (r.2 ∙ h.2) ((r.3).opened).opened) (r.3).answered)
        by (inr lacks) = subst (λ (os : List OpenEntry). P (told_by reader os)) (sym (none_opened readers reader lacks)) (none (subst (λ (ns : List ℕ). HasNone ns reader) p.readers_are lacks))

    opens : (reader : ℕ) → 1 ≤ reader → reader ≤ 64
        → AreKnown reader (asked_of reader script) (with_draws_before (λ (x : Told). is_open_by reader x.0) (λ (x : Told). is_draw_step x.0) 0 merge)
    opens reader some most = of_reader (AreKnown reader (asked_of reader script)) reader some most
        (told_opens script drawings shots p.shown reader (asked_of reader script))
        (λ lacks. subst (λ asked. AreKnown reader asked []) (sym (none_of_reader script listed reader lacks)) tt)

    in_shots : (reader : ℕ) → 1 ≤ reader → reader ≤ 64
        → AreOnShots shots (with_draws_before (λ (x : Told). is_open_by reader x.0) (λ (x : Told). is_draw_step x.0) 0 merge)
    in_shots reader some most = of_reader (AreOnShots shots) reader some most (λ os asked answered. on_shots script drawings shots p.shown reader os answered) (λ lacks. tt)

    drawn : drawings ≡ (world_after 1 c.weights (steps merge)).drawings
    drawn = sym (m.drawings ∙ (p.gathered).drawn) ∙ ap (λ (n : ℕ). (world_after n c.weights (steps merge)).drawings) p.carousel

    shown : IsShown c.weights merge
    shown = record { shots = shots; are = subst (λ (ds : List Drawing). AreShots ds shots) drawn p.shown; opens = in_shots }

    settled : settles script ≡ true → EndsSettled (steps merge)
    settled s = ends_settled script.editors c merge tells (p.settled s) (subst EndsDrawn (sym draws) (last s))

    few : length (draws_in (steps merge)) ≤ 16777216
    few = let n = ap length draws in let k = line_count in let most = ((p.gathered).history).draws in omega (arith, n, k, most)

    published : ArePublishable (world_after 1 c.weights (steps merge)).catalogue.carousel (trees_of (world_after 1 c.weights (steps merge)).catalogue)
    published =
        subst (λ (n : ℕ). ArePublishable (world_after n c.weights (steps merge)).catalogue.carousel (trees_of (world_after n c.weights (steps merge)).catalogue)) p.carousel
        (merged_is_published c script.editors (fates_of script) readers ready)

    run : IsRunOfWorld 1 c.weights merge
    run = subst (λ (n : ℕ). IsRunOfWorld n c.weights merge) p.carousel m.run

    pub session : HistoriesGrow → EverySettledRunIsWhole → EverySettledRunOpens → IsSession c.weights script merge
    session grow whole opening = record {
      run = run;
      steps = m.steps;
      headline = subst (λ (n : ℕ). MeetsHeadline n c.weights (steps merge)) p.carousel m.headline;
      commits = λ editor some most. commits editor;
      draws = draws;
      opens = opens;
      shown = shown;
      in_place = opens_in_place script.editors readers (fates_of script) c.entries;
      settled = settled;
      whole = λ s. ends_whole grow whole c.weights (steps merge) ((p.gathered).history).weights (settled s) published few;
      answered = λ s. ends_answered grow opening c.weights merge ((p.gathered).history).weights run (settled s) published few;
    }

  pub all : EveryMergeIsMerged → HistoriesGrow → EverySettledRunIsWhole → EverySettledRunOpens → AreParts c.entries (fates_of script) script.editors readers × IsSession c.weights script merge
  all merges grow whole opening = (parts, session (merges c script.editors (fates_of script) readers ready) grow whole opening)

pub played : EveryMergeIsMerged → HistoriesGrow → EverySettledRunIsWhole → EverySettledRunOpens → PlayedIsASession
played merges grow whole opening parts c drawings shots readers ranges listed p = all (script_of_parts parts) c drawings shots readers ranges listed (settles_last parts) p merges grow whole opening
