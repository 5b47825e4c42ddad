-- One call of the station more in an actor's chain; and the catalogue once all passes are back, with the draws that come then.
use Rattle.session.proofs.Words.{numbers_of, ◌≡◌, ℕ, suc, ◌+◌, ◌<◌, Bool, true, false, nat_le, List, [], ◌∷◌, ◌++◌, map, length, Ok, refl, ap, sym, ◌∙◌, subst, arith, append_assoc, append-nil, cond, Result, Err, slice_index_or, All, Vec, Global, map-append, leb-false, Shot, Edit, Fate, Begins, total, times, once_within, IsPassOf, number_of, Pass, Kept, KeptItem, Station, IsStationPass, AreAllPasses, pass_count, carousel_of, weights_of, entries_seen, owners_of, CatalogueState, IsHistory, with_draw, current_of, cursor_of, items_drawn, with_commit, IsDrawn, BatchFields, view_batch, IsCommitted, Batch, Entry, DownlinkState, Step, Drawing, drawing_of, fates_view, Seen, seen_in, Commits, Draws, DrawFields, nothing_seen, GoesOnWith, seen_after, HasShown, HasCommitted, HasFed, drawing_in, WouldBeEntered, EditorSeat, FeederSeat, commits_by, settling_lines, AllCommitted, ActorsGather, GatherGrows, IsGathered, GathersAll, GathersOn, HasGathered, settling_line, state, InOneHold}
use Rattle.history_lock.specs.History as histories
use Rattle.generation_catalogue.specs.History.{draws_of}
use Rattle.generation_catalogue.specs.declared.entry.CommitFault.{CommitFault}
use Rattle.session.specs.declared.ending.Closed.{Closed}
use Rattle.generation_catalogue.specs.declared.entry.CommitFault.TheVariants as commits

commits_push : (id : ℕ) (ws : List ℕ) (place : ℕ) (s : Seen) (lines : List (List Edit)) (edits : List Edit) (t : Seen) (c : CatalogueState) → Commits id ws place s lines t → GoesOnWith id ws t c
    → Commits id ws place s (lines ++ edits ∷ []) (seen_after t c (with_commit c place edits))
commits_push id ws place s [] edits t c is on = (c, subst (λ (x : Seen). GoesOnWith id ws x c) is on, ap (λ (x : Seen). seen_after x c (with_commit c place edits)) is)
commits_push id ws place s (l ∷ lines) edits t c h on = (h.0, h.1, commits_push id ws place (seen_after s h.0 (with_commit h.0 place l)) lines edits t c h.2 on)

draws_push : (id : ℕ) (ws : List ℕ) (s : Seen) (lines : List DrawFields) (l : DrawFields) (ds : List Drawing) (d : Drawing) (t : Seen) (c : CatalogueState) → Draws id ws s lines ds t
    → GoesOnWith id ws t c → draws_of c < 16777216 → d ≡ drawing_of c l.asked l.fates → Draws id ws s (lines ++ l ∷ []) (ds ++ d ∷ []) (seen_after t c (with_draw c l.asked))
draws_push id ws s [] l [] d t c is on room e =
    (c, subst (λ (x : Seen). GoesOnWith id ws x c) is on, room, e, ap (λ (x : Seen). seen_after x c (with_draw c l.asked)) is)
draws_push id ws s [] l (x ∷ ds) d t c h on room e = absurd h
draws_push id ws s (x ∷ lines) l [] d t c h on room e = absurd h
draws_push id ws s (x ∷ lines) l (y ∷ ds) d t c h on room e =
    (h.0, h.1, h.2, h.3, draws_push id ws (seen_after s h.0 (with_draw h.0 x.asked)) lines l ds d t c h.4 on room e)

module _ (id : ℕ) (ws : List ℕ) (p q : Pass Kept KeptItem) (Call : CatalogueState → CatalogueState → Type 0) (h : InOneHold id ws p q Call) where
  goes_on : GoesOnWith id ws (seen_in p) h.before
  goes_on = record { carousel = h.same; weighs = h.weighs; history = h.history; begins = h.begins }

  seen_then : (d : CatalogueState) → h.after ≡ d → seen_in q ≡ seen_after (seen_in p) h.before d
  seen_then d is = let now : seen_in q ≡ seen_after (seen_in p) h.before h.after = λ i. record { entries = h.seen i; own = h.own i } in
      now ∙ ap (λ (x : CatalogueState). seen_after (seen_in p) h.before x) is

-- ---- commits

-- the commit was answered, as accepted or refused
abbrev pub IsAnswered : Result ℕ CommitFault → Type 0
IsAnswered (Ok n) = Unit {0}
IsAnswered (Err (commits.Refused refusal)) = Unit {0}
IsAnswered (Err commits.NoMemory) = ⊥

entered : (c : CatalogueState) (editor : ℕ) (edits : List Edit) (result : Result ℕ CommitFault) (d : CatalogueState) → IsAnswered result → IsCommitted c editor edits result d → d ≡ with_commit c editor edits
entered c editor edits (Ok n) d a h = h.entry
entered c editor edits (Err (commits.Refused r)) d a h = h.entry
entered c editor edits (Err commits.NoMemory) d a h = absurd a

pub one_commit_more : {X : _} {F : _} {g : _} (s : Station X F g) (p q : Pass Kept KeptItem) (edits : List Edit) (result : Result ℕ CommitFault) → IsAnswered result → IsStationPass s q → number_of q ≡ number_of p
    → InOneHold (carousel_of s) (weights_of s) p q (λ c d. IsCommitted c (number_of p) edits result d)
    → (place : ℕ) (lines : List (List Edit)) → HasCommitted s place lines p → HasCommitted s place (lines ++ edits ∷ []) q
one_commit_more s p q edits result answered pass number h place lines done = let id = carousel_of s in let ws = weights_of s in
    let Call : CatalogueState → CatalogueState → Type 0 = λ c d. IsCommitted c (number_of p) edits result d in
    let made : h.after ≡ with_commit h.before place edits = entered h.before (number_of p) edits result h.after answered h.call ∙ ap (λ (n : ℕ). with_commit h.before n edits) done.number in
    record {
      pass = pass;
      number = number ∙ done.number;
      commits = subst (Commits id ws place nothing_seen (lines ++ edits ∷ [])) (sym (seen_then id ws p q Call h (with_commit h.before place edits) made))
          (commits_push id ws place nothing_seen lines edits (seen_in p) h.before done.commits (goes_on id ws p q Call h));
    }

-- out of memory comes only of a commit that would be entered
pub would_be_entered : {X : _} {F : _} {g : _} (s : Station X F g) (p q : Pass Kept KeptItem) (edits : List Edit) (result : Result ℕ CommitFault) → result ≡ Err commits.NoMemory
    → InOneHold (carousel_of s) (weights_of s) p q (λ c d. IsCommitted c (number_of p) edits result d) → WouldBeEntered s p edits
would_be_entered s p q edits result none h = let Call : CatalogueState → CatalogueState → Type 0 = λ c d. IsCommitted c (number_of p) edits result d in
    (h.before, goes_on (carousel_of s) (weights_of s) p q Call h, h.call.memory none)

-- ---- draws

abbrev pub drawing : BatchFields → List Fate → Drawing
drawing x fates = record { generation = x.generation; items = x.items; fates = fates }

-- the answer of a draw is no error, so there was room, and it is what it would be with room
pub given : (full : Bool) (n : ℕ) (x y : BatchFields) → cond full (Err n) (Ok x) ≡ Ok y → (full ≡ false) × (x ≡ y)
given true n x y e = cc
given false n x y e = (refl, cc)

pub one_draw_more : {X : _} {F : _} {g : _} (s : Station X F g) (line : DrawFields) (old new : FeederSeat) (before after : List Shot) (b : Batch) (fates : Vec Fate Global) → line.fates ≡ fates.items
    → IsStationPass s new.pass → InOneHold (carousel_of s) (weights_of s) old.pass new.pass (λ c d. IsDrawn c line.asked (Ok b) d)
    → ((drawings : List Drawing) → HasShown drawings old.downlink before → HasShown (drawings ++ drawing_in b fates.items ∷ []) new.downlink after)
    → new.fates.items ≡ old.fates.items ++ fates ∷ []
    → (lines : List DrawFields) → HasFed s lines old before → HasFed s (lines ++ line ∷ []) new after
one_draw_more s line old new before after b fates under pass h shows pushed lines done = let id = carousel_of s in let ws = weights_of s in
    let Call : CatalogueState → CatalogueState → Type 0 = λ c d. IsDrawn c line.asked (Ok b) d in let c = h.before in
    let fields : BatchFields = record { generation = current_of c; first = cursor_of c; items = items_drawn c line.asked } in
    let parts = given (nat_le 16777216 (draws_of c)) 16777216 fields (view_batch b) h.call.answer in
    let made : drawing_in b fates.items ≡ drawing_of c line.asked line.fates =
    ap (λ (x : BatchFields). drawing x fates.items) (sym parts.1) ∙ ap (drawing fields) (sym under) in
    record {
      pass = pass;
      drawings = done.drawings ++ drawing_in b fates.items ∷ [];
      draws = subst (Draws id ws nothing_seen (lines ++ line ∷ []) (done.drawings ++ drawing_in b fates.items ∷ [])) (sym (seen_then id ws old.pass new.pass Call h (with_draw c line.asked) h.call.entry))
          (draws_push id ws nothing_seen lines line done.drawings (drawing_in b fates.items) (seen_in old.pass) c done.draws (goes_on id ws old.pass new.pass Call h) (leb-false 16777216 (draws_of c) parts.0) made);
      shown = shows done.drawings done.shown;
      fates = ap (map (λ (v : Vec Fate Global). v.items)) pushed ∙ map-append (λ (v : Vec Fate Global). v.items) old.fates.items (fates ∷ [])
          ∙ (λ i. done.fates i ++ sym under i ∷ []) ∙ sym (map-append (λ (l : DrawFields). l.fates) lines (line ∷ []));
    }

-- ---- the catalogue once all passes are back

-- ---- the passes

abbrev pass_in : EditorSeat → Pass Kept KeptItem
pass_in seat = seat.pass

abbrev seen_by_seat : EditorSeat → Seen
seen_by_seat seat = seen_in seat.pass

each_seen : (es : List Entry) (editors : List EditorSeat) (p : Pass Kept KeptItem) → histories.Each (λ q. Begins (entries_seen q) es) (map pass_in editors ++ p ∷ [])
    → histories.Each (λ (s : Seen). Begins s.entries es) (map seen_by_seat editors ++ seen_in p ∷ [])
each_seen es [] p h = h
each_seen es (e ∷ editors) p h = (h.0, each_seen es editors p h.1)

owners_seen : (place : ℕ) (editors : List EditorSeat) (p : Pass Kept KeptItem)
    → total (λ (s : Seen). times place s.own) (map seen_by_seat editors ++ seen_in p ∷ []) ≡ owners_of place (map pass_in editors ++ p ∷ [])
owners_seen place [] p = refl
owners_seen place (e ∷ editors) p = ap (λ (n : ℕ). times place (seen_in e.pass).own + n) (owners_seen place editors p)

all_committed : {X : _} {F : _} {g : _} (s : Station X F g) (events : List Step) (place : ℕ) (editors : List EditorSeat)
    → ((k : ℕ) (d : EditorSeat) → k < length editors → HasCommitted s (place + k) (commits_by (slice_index_or editors k d).number events) (slice_index_or editors k d).pass)
    → AllCommitted (carousel_of s) (weights_of s) place (map (λ (n : ℕ). commits_by n events) (numbers_of editors)) (map seen_by_seat editors)
all_committed s events place [] h = tt
all_committed s events place (e ∷ editors) h = (
  subst (λ (k : ℕ). Commits (carousel_of s) (weights_of s) k nothing_seen (commits_by e.number events) (seen_in e.pass)) (here place) (h 0 e (omega arith)).commits,
  all_committed s events (suc place) editors
      (λ k d lt. subst (λ (i : ℕ). HasCommitted s i (commits_by (slice_index_or editors k d).number events) (slice_index_or editors k d).pass) (later place k) (h (suc k) d (omega (arith, lt)))),
)
  where
    here : (n : ℕ) → n + 0 ≡ n
    here n = omega arith

    later : (n k : ℕ) → n + suc k ≡ suc n + k
    later n k = omega arith

-- what the actors did is gathered in the catalogue
pub gathered_of : ActorsGather → {X : _} {F : _} {g : _} {Y : _} {G : _} {h : _} (s : Station X F g) (editors : List EditorSeat) (feeder : FeederSeat) (passes : List (Pass Kept KeptItem)) (e : Closed Y G h)
    → passes ≡ map pass_in editors ++ feeder.pass ∷ [] → e.downlink ≡ feeder.downlink → e.fates ≡ feeder.fates
    → (state e.catalogue).carousel ≡ carousel_of s → (state e.catalogue).weights ≡ weights_of s → IsHistory (state e.catalogue)
    → histories.Each (λ q. Begins (entries_seen q) (state e.catalogue).entries) passes
    → ((place : ℕ) → owners_of place passes ≡ once_within 0 (length (state e.catalogue).entries) place)
    → GathersAll s editors feeder e
gathered_of law s editors feeder passes e all down fates carousel weighs history seen owned events draws shots done fed =
    let c = state e.catalogue in let commits = map (λ (n : ℕ). commits_by n events) (numbers_of editors) in record {
      carousel = carousel;
      weighs = weighs;
      drawings = fed.drawings;
      gathered = law commits draws fed.drawings c (map seen_by_seat editors) (seen_in feeder.pass) history
          (subst (λ (ws : List ℕ). AllCommitted c.carousel ws 0 commits (map seen_by_seat editors)) (sym weighs)
          (subst (λ (id : ℕ). AllCommitted id (weights_of s) 0 commits (map seen_by_seat editors)) (sym carousel)
          (all_committed s events 0 editors (λ k d lt. subst (λ (i : ℕ). HasCommitted s i (commits_by (slice_index_or editors k d).number events) (slice_index_or editors k d).pass) (from_zero k) (done k d lt)))))
          (subst (λ (ws : List ℕ). Draws c.carousel ws nothing_seen draws fed.drawings (seen_in feeder.pass)) (sym weighs)
          (subst (λ (id : ℕ). Draws id (weights_of s) nothing_seen draws fed.drawings (seen_in feeder.pass)) (sym carousel) fed.draws))
          (each_seen c.entries editors feeder.pass (subst (histories.Each (λ q. Begins (entries_seen q) c.entries)) all seen))
          (λ place. owners_seen place editors feeder.pass ∙ ap (owners_of place) (sym all) ∙ owned place);
      shown = subst (λ (d : DownlinkState). HasShown fed.drawings d shots) (sym down) fed.shown;
      fates = ap (λ (v : Vec (Vec Fate Global) Global). map fates_view v.items) fates ∙ fed.fates;
    }
  where
    from_zero : (k : ℕ) → k ≡ 0 + k
    from_zero k = omega arith

-- ---- the draws of `settle`

module _ {X : _} {F : _} {g : _} where
  pub one_more : GatherGrows → (old new : Closed X F g) (fates : Vec Fate Global) (given_fates : List Fate) (b : Batch) (before after : List Shot) → fates.items ≡ [] → given_fates ≡ fates.items
      → IsDrawn (state old.catalogue) 1048576 (Ok b) (state new.catalogue)
      → ((drawings : List Drawing) → HasShown drawings old.downlink before → HasShown (drawings ++ drawing_in b given_fates ∷ []) new.downlink after)
      → new.fates.items ≡ old.fates.items ++ fates ∷ [] → GathersOn old new before after (settling_line ∷ [])
  one_more law old new fates given_fates b before after none under h shows pushed id weights commits draws had =
      let from = state old.catalogue in let fields : BatchFields = record { generation = current_of from; first = cursor_of from; items = items_drawn from 1048576 } in
      let parts = given (nat_le 16777216 (draws_of from)) 16777216 fields (view_batch b) h.answer in
      let is : drawing_in b given_fates ≡ drawing_of from 1048576 [] = ap (λ (x : BatchFields). drawing x given_fates) (sym parts.1) ∙ ap (drawing fields) (under ∙ none) in
      record {
        carousel = ap (λ (x : CatalogueState). x.carousel) h.entry ∙ had.carousel;
        weighs = ap (λ (x : CatalogueState). x.weights) h.entry ∙ had.weighs;
        drawings = had.drawings ++ drawing_of from 1048576 [] ∷ [];
        gathered = subst (λ (x : CatalogueState). IsGathered commits (draws ++ settling_line ∷ []) x (had.drawings ++ drawing_of from 1048576 [] ∷ [])) (sym h.entry)
            (law commits draws had.drawings from settling_line had.gathered (leb-false 16777216 (draws_of from) parts.0) (omega arith) (omega arith));
        shown = subst (λ (x : Drawing). HasShown (had.drawings ++ x ∷ []) new.downlink after) is (shows had.drawings had.shown);
        fates = ap (map fates_view) pushed ∙ map-append fates_view old.fates.items (fates ∷ [])
            ∙ (λ i. had.fates i ++ none i ∷ []) ∙ sym (map-append (λ (l : DrawFields). l.fates) draws (settling_line ∷ []));
      }

  pub none_more : (b : Bool) → b ≡ false → (e : Closed X F g) (shots : List Shot) → GathersOn e e shots shots (settling_lines b)
  none_more b is e shots id weights commits draws h =
      subst (λ (ds : List DrawFields). HasGathered id weights commits ds shots e) (sym (ap (λ (x : Bool). draws ++ settling_lines x) is ∙ append-nil draws)) h

  pub two_more : (b : Bool) → b ≡ true → (e0 e1 e2 : Closed X F g) (before mid after : List Shot) → GathersOn e0 e1 before mid (settling_line ∷ []) → GathersOn e1 e2 mid after (settling_line ∷ [])
      → GathersOn e0 e2 before after (settling_lines b)
  two_more b is e0 e1 e2 before mid after one two id weights commits draws h = subst (λ (ds : List DrawFields). HasGathered id weights commits ds after e2)
      (append_assoc draws (settling_line ∷ []) (settling_line ∷ []) ∙ ap (λ (x : Bool). draws ++ settling_lines x) (sym is)) (two id weights commits (draws ++ settling_line ∷ []) (one id weights commits draws h))

-- the passes that go back are all of the station
pub all_passes : {X : _} {F : _} {g : _} (s : Station X F g) (editors : List EditorSeat) (feeder : FeederSeat) (passes : List (Pass Kept KeptItem)) → passes ≡ map pass_in editors ++ feeder.pass ∷ []
    → pass_count s ≡ length editors + 1 → All (λ (seat : EditorSeat). IsStationPass s seat.pass) editors → IsStationPass s feeder.pass → AreAllPasses s passes
all_passes s editors feeder passes is count each last = let P : List (Pass Kept KeptItem) → Type 0 = AreAllPasses s in
    subst P (sym is) (every editors each, all_counted)
  where
    every : (es : List EditorSeat) → All (λ (seat : EditorSeat). IsStationPass s seat.pass) es → histories.Each (IsPassOf s.lock) (map pass_in es ++ feeder.pass ∷ [])
    every [] h = (last.0, tt)
    every (e ∷ es) h = ((h 0 e (omega arith)).0, every es (λ k d lt. h (suc k) d (omega (arith, lt))))

    counted : (es : List EditorSeat) → length (map pass_in es ++ feeder.pass ∷ []) ≡ length es + 1
    counted [] = refl
    counted (e ∷ es) = let h = counted es in omega (arith, h)

    all_counted : length (map pass_in editors ++ feeder.pass ∷ []) ≡ pass_count s
    all_counted = counted editors ∙ sym count
