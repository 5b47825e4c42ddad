-- From what is left of a session to the whole of it.
use Rattle.session.proofs.Words.{numbers_of, ◌≡◌, ℕ, suc, ◌+◌, ◌≤◌, ◌==◌, Bool, true, List, [], ◌∷◌, ◌++◌, map, length, refl, ap, sym, ◌∙◌, subst, arith, append-nil, inl, inr, is_some, All, count_by, Vec, Global, cases_Bool, recursion_from_All, IsPrefix, prefix_length, prefix_whole, PathNames, Edit, Fate, Shot, ReaderView, IsSameReader, AllAnswered, OpenEntry, Station, carousel_of, weights_of, state, Entry, Step, Commit, Draw, Open, Stage, Fields, script_of_parts, events_of, fates_view, DrawFields, Asked, AreOpened, HasOpened, Rises, DidRead, asked_at, ReaderSeat, Cast, commits_by, draws_in, asked_from, asked_of, is_draw_before, opens_by, at_end, end_steps, settling_lines, steps, IsGathered, IsPlayed, IsSettled, FitsAndTells, HasRead, PlayedIsASession, fates_of, whose, Setting, done_in, draws_before, draws_of, readers_of, AreAll, AreDone, GathersAll, GathersOn, HasGathered, ReaderDone}
use Rattle.session.specs.declared.ending.Closed.{Closed}
use Rattle.session.proofs.Begun.{draws_count as drawings_count}
use Rattle.session.proofs.Parted.{commits_at_end, draws_at_end, events_parts, settle_there, staged_parts}
use Rattle.session.proofs.Reading.{asked_count, opened_count}
use Rattle.session.proofs.Staged.{asked_more, commits_more, count_all, draws_more, opens_more, steps_done}

rises_on : (first : ℕ) (opens : List OpenEntry) (last more : ℕ) → last ≤ more → Rises first opens last → Rises first opens more
rises_on first [] last more le h = omega (arith, le, h)
rises_on first (e ∷ es) last more le h = (h.0, rises_on (e.shot + 1) es last more le h.1)

-- ---- the events

module _ (setting : Setting) where
  abbrev script : Fields
  script = script_of_parts setting.parts

  abbrev done : List (Stage × Step)
  done = done_in setting

  abbrev ends : List Step
  ends = end_steps setting.parts

  events_split : events_of script ≡ steps done ++ ends
  events_split = events_parts setting.parts ∙ ap (λ (zs : List Step). zs ++ ends) (sym (steps_done setting))

  commits_split : (n : ℕ) → commits_by n (steps done) ≡ commits_by n (events_of script)
  commits_split n = sym (ap (commits_by n) events_split ∙ commits_more n (steps done) ends ∙ ap (λ (zs : List (List Edit)). commits_by n (steps done) ++ zs) (commits_at_end n setting.parts)
      ∙ append-nil (commits_by n (steps done)))

  draws_split : draws_in (steps done) ++ settling_lines (is_some setting.parts.settle) ≡ draws_in (events_of script)
  draws_split = ap (λ (ds : List DrawFields). draws_in (steps done) ++ ds) (sym (draws_at_end setting.parts)) ∙ sym (ap draws_in events_split ∙ draws_more (steps done) ends)

  draws_count : draws_of setting ≡ length (draws_in (steps done)) + length (settling_lines (is_some setting.parts.settle))
  draws_count = let a = count_all draws_in draws_more setting in let b = ap (λ (ds : List DrawFields). length ds) (draws_at_end setting.parts) in omega (arith, a, b)

  -- ---- what is asked of a reader

  asked_last : (r before all above : ℕ) (es : List Step) → asked_from r before all above (at_end es) ≡ map (asked_at all) (opens_by r es)
  asked_last r before all above [] = refl
  asked_last r before all above (Commit editor edits ∷ es) = asked_last r before all above es
  asked_last r before all above (Draw asked fates ∷ es) = asked_last r before all (suc above) es
  asked_last r before all above (Open reader path ∷ es) =
      let rest = asked_last r before all above es in elim (cases_Bool (reader == r)) [ inl e ↦ rw e (ap (λ (zs : List Asked). asked_at all path ∷ zs) rest) | inr e ↦ rw e rest ]

  asked_split : (r : ℕ) → asked_from r (draws_before setting) (draws_of setting) 0 done ++ map (asked_at (draws_of setting)) (opens_by r ends) ≡ asked_of r script
  asked_split r = let b = draws_before setting in let a = draws_of setting in sym (asked_more r b a 0 done (at_end ends)
      ∙ ap (λ (zs : List Asked). asked_from r b a 0 done ++ zs) (asked_last r b a (0 + length (draws_in (steps done))) ends))
      ∙ ap (λ (es : List (Stage × Step)). asked_from r (count_by is_draw_before es) (length (draws_in (steps es))) 0 es) (sym (staged_parts setting.parts))

  -- ---- a reader at the end

  module _ (shots : List Shot) (seat : ReaderSeat) (d : ReaderDone setting seat) (all : AreAll setting shots) (told looked : ReaderView)
      (learned : IsSameReader seat.pass told × (told.known ≡ seat.pass.known) × (told.opens ≡ seat.pass.opens))
      (took : IsSameReader told looked × (looked.told ≡ told.told) × (looked.opens ≡ told.opens)) where
    abbrev reader : ℕ
    reader = seat.pass.reader

    abbrev before : List Asked
    before = asked_from reader (draws_before setting) (draws_of setting) 0 done

    -- it has room for what it opens then
    pub may_read : length looked.opens + length seat.finales.items ≤ looked.room
    may_read = let opened = opened_count before seat.pass.opens d.opened.opened in let asked = asked_count reader (draws_before setting) (draws_of setting) 0 done in
        let paths = ap (λ (ps : List PathNames). length ps) d.finales in let every = count_all (opens_by reader) (opens_more reader) setting in
        let room = took.0.1 ∙ learned.0.1 ∙ d.room in let made = ap (λ (es : List OpenEntry). length es) (took.2 ∙ learned.2) in omega (arith, opened, asked, paths, every, room, made)

    -- it was told of all shots and took the last one; then it opens its paths
    pub reads_last : IsPrefix shots told.told → IsPrefix told.known looked.known × (length looked.known ≤ looked.most + 1) → IsPrefix told.told looked.known
        → (ready last : ReaderSeat) → DidRead ready last → ready.pass ≡ looked → ready.paths.items ≡ seat.finales.items → last.whole ≡ true → AllAnswered last.pass.known last.pass.opens → HasRead script shots last.pass
    reads_last heard know up ready last did now finales whole answered =
        let full : length shots ≡ draws_of setting + 1 = all in let most : looked.most ≡ draws_of setting = took.0.3 ∙ learned.0.3 ∙ d.most_is in let same : last.pass.reader ≡ reader = did.same.0 ∙ ap (λ (v : ReaderView). v.reader) now ∙ took.0.0 ∙ learned.0.0 in
        let listed = prefix_length shots told.told heard in let further = prefix_length told.told looked.known up in let few = know.1 in
        let first : shots ≡ told.told = prefix_whole shots told.told heard (omega (arith, full, further, few, most)) in
        let second : told.told ≡ looked.known = prefix_whole told.told looked.known up (omega (arith, full, listed, few, most)) in
        let known : ready.pass.known ≡ shots = ap (λ (v : ReaderView). v.known) now ∙ sym (first ∙ second) in
        let count = ap (λ (ss : List Shot). length ss) known in let limit = ap (λ (v : ReaderView). v.most) now in let later = did.same.3 in
        let still : ready.pass.known ≡ last.pass.known =
        prefix_whole ready.pass.known last.pass.known did.known (let upto = did.most (omega (arith, count, full, limit, most)) in omega (arith, upto, count, full, limit, most, later)) in
        let opened : HasOpened before ready.pass = subst (λ (v : ReaderView). HasOpened before v) (sym now) (record {
          opened = subst (λ (es : List OpenEntry). AreOpened before es) (sym (took.2 ∙ learned.2)) d.opened.opened;
          rises = subst (λ (es : List OpenEntry). Rises 0 es (length looked.known)) (sym (took.2 ∙ learned.2))
              (rises_on 0 seat.pass.opens (length seat.pass.known) (length looked.known) (let n = prefix_length told.known looked.known know.0 in let m = ap (λ (ss : List Shot). length ss) learned.1 in omega (arith, n, m)) d.opened.rises);
        }) in
        let heard_all : draws_of setting + 1 ≤ length ready.pass.told = (let t = ap (λ (v : ReaderView). length v.told) now in let k = ap (λ (ss : List Shot). length ss) took.1 in omega (arith, t, k, listed, full)) in record {
          opened = subst (λ (asked : List Asked). HasOpened asked last.pass)
              (ap (λ (ps : List PathNames). before ++ map (asked_at (draws_of setting)) ps) (finales ∙ d.finales) ∙ asked_split reader ∙ ap (λ (r : ℕ). asked_of r script) (sym same))
              (did.whole whole (draws_of setting) before heard_all opened);
          known = sym still ∙ known;
          answered = subst (λ (ss : List Shot). AllAnswered ss last.pass.opens) (sym still ∙ known) answered;
        }

  -- ---- all of it

  module _ {X : _} {F : _} {g : _} (s : Station X F g) (settling : Bool) (numbers : List ℕ) (first : List Shot) (cast : Cast) (d : AreDone setting settling s numbers first cast) where
    settle_count : length (settling_lines settling) ≡ length (settling_lines (is_some setting.parts.settle))
    settle_count = ap (λ (b : Bool). length (settling_lines b)) d.settled

    -- one shot was shown before the draws and one after each
    shown_count : length first ≡ length (draws_in (steps done)) + 1
    shown_count = let fed = d.done.fed in let shots = fed.shown.shown.count in
        let drawings = drawings_count (carousel_of s) (weights_of s) _ _ (draws_in (steps done)) fed.drawings fed.draws in omega (arith, shots, drawings)

    pub may_draw : (most : ℕ) → most ≡ draws_of setting → length first + length (settling_lines settling) ≤ most + 1
    may_draw most is = let shots = shown_count in let all = draws_count in let same = settle_count in omega (arith, shots, all, same, is)

    pub all_shown : (shots : List Shot) → length shots ≡ length first + length (settling_lines settling) → AreAll setting shots
    all_shown shots shown = let count = shown_count in let all = draws_count in let settled = settle_count in omega (arith, shown, count, all, settled)

    module _ {Y : _} {G : _} {h : _} (e0 e1 : Closed Y G h) (shots : List Shot) (news : List ReaderView) (gathered : GathersAll s cast.editors.items cast.feeder e0)
        (settled : settling ≡ true → IsSettled (state e1.catalogue)) (went_on : GathersOn e0 e1 first shots (settling_lines settling)) (shown : length shots ≡ length first + length (settling_lines settling))
        (readers : whose news ≡ readers_of cast.readers.items) (read : (setting : Setting) → All (ReaderDone setting) cast.readers.items → AreAll setting shots → All (HasRead (script_of_parts setting.parts) shots) news) where
      abbrev draws_all : draws_in (steps done) ++ settling_lines settling ≡ draws_in (events_of script)
      draws_all = ap (λ (b : Bool). draws_in (steps done) ++ settling_lines b) d.settled ∙ draws_split

      all_gathered : HasGathered (carousel_of s) (weights_of s) (map (λ (n : ℕ). commits_by n (steps done)) (numbers_of cast.editors.items)) (draws_in (steps done) ++ settling_lines settling) shots e1
      all_gathered = went_on (carousel_of s) (weights_of s) (map (λ (n : ℕ). commits_by n (steps done)) (numbers_of cast.editors.items)) (draws_in (steps done))
          (gathered (steps done) (draws_in (steps done)) first d.done.committed d.done.fed)

      is_played : IsPlayed script (state e1.catalogue) all_gathered.drawings shots news
      is_played = record {
        carousel = all_gathered.carousel ∙ d.carousel;
        gathered = subst (λ (commits : List (List (List Edit))). IsGathered commits (draws_in (events_of script)) (state e1.catalogue) all_gathered.drawings)
            (λ i. map (λ (n : ℕ). commits_split n i) (d.done.editors_are i))
            (subst (λ (draws : List DrawFields). IsGathered (map (λ (n : ℕ). commits_by n (steps done)) (numbers_of cast.editors.items)) draws (state e1.catalogue) all_gathered.drawings) draws_all all_gathered.gathered);
        shown = all_gathered.shown.shown;
        readers_are = readers ∙ d.done.readers_are;
        read = recursion_from_All (HasRead script shots) news (read setting d.done.read (all_shown shots shown));
        settled = λ yes. settled (d.settled ∙ settle_there setting.parts yes);
      }

      fates_are : map fates_view e1.fates.items ≡ fates_of script
      fates_are = all_gathered.fates ∙ ap (map (λ (line : DrawFields). line.fates)) draws_all

      -- what is merged fits together, and tells a session
      pub ends_well : (entries : List Entry) (fates : List (Vec Fate Global)) (passes : List ReaderView) → entries ≡ (state e1.catalogue).entries → fates ≡ e1.fates.items → passes ≡ news → PlayedIsASession
          → FitsAndTells (weights_of s) script numbers entries (map fates_view fates) passes
      ends_well entries fates passes entries_is fates_is passes_is law =
          subst (λ (x : List ℕ × List ℕ × List Entry × List (List Fate) × List ReaderView). FitsAndTells x.0 script x.1 x.2 x.3 x.4)
          (λ i. (all_gathered.weighs i, sym d.numbers_are i, sym entries_is i, (sym fates_are ∙ sym (ap (map fates_view) fates_is)) i, sym passes_is i))
          (law setting.parts (state e1.catalogue) all_gathered.drawings shots news setting.ranges setting.listed is_played)
