-- From what a session begins with to what its threads and its end ask for; and the feeder, after one event more.
use Rattle.session.proofs.Words.{◌≡◌, ◌≤◌, ◌+◌, ℕ, zero, suc, List, [], ◌∷◌, ◌++◌, map, length, Bool, Option, Some, refl, sym, ap, ◌∙◌, subst, arith, slice_get, option_to_list, Vec, Global, All, All-nil, All-cons, length-map, length-append, Fate, Shot, view, snapshot_after, Pass, Station, Kept, KeptItem, IsStationPass, AreNewPasses, carousel_of, pass_count, entries_seen, own_entries, weights_of, Book, Viewer, DownlinkStands, DownlinkState, Step, Draw, candidates_after, DrawFields, Draws, Seen, nothing_seen, seen_after, seen_in, lists_of, AreShots, HasShown, IsDrawLine, draw_of, HasFed, DrawLine, Cast, Start, draws_in, opens_by, IsPlanOf, before_steps, end_steps, settling_lines, steps, FeederStands, IsViewerOf, Setting, draws_of, view_happening, IsNext, CastDone, AreDone, EditorSeat, IsBegun, with_draw, Drawing, Happening, FeederSeat}
use Rattle.shot_board.specs.Viewers.{known_of, told_of, most_of, viewer_board}
use Rattle.shot_board.specs.Shots.{Each}
use Rattle.session_script.specs.declared.words.TheConstants.{MOST_ACTORS}
use Rattle.session.specs.declared.plan.Plan.{Plan}
use Rattle.session.proofs.Parted.{draws_at_end, opens_at_end}
use Rattle.session.proofs.Staged.{count_all, count_done, draws_more, idle_of}
use Rattle.rehearsal.specs.declared.interpreter.Happening.TheVariants as deeds

-- ---- the feeder

-- an event that is no draw
pub feeder_idles : {X : _} {F : _} {g : _} (setting : Setting) (s : Station X F g) (done : List Step) (shots : List Shot) (seat : FeederSeat) (e : Step) → draws_in (e ∷ []) ≡ []
    → FeederStands setting s done shots seat → FeederStands setting s (done ++ e ∷ []) shots seat
feeder_idles setting s done shots seat e none st =
    record { fed = subst (λ (lines : List DrawFields). HasFed s lines seat shots) (sym (idle_of draws_in draws_more done e none)) st.fed; draws = st.draws; in_range = st.in_range }

pub draws_count : (id : ℕ) (ws : List ℕ) (a b : Seen) (lines : List DrawFields) (ds : List Drawing) → Draws id ws a lines ds b → length ds ≡ length lines
draws_count id ws a b [] [] h = refl
draws_count id ws a b (l ∷ ls) (d ∷ ds) h = ap suc (draws_count id ws (seen_after a h.0 (with_draw h.0 l.asked)) b ls ds h.4)
draws_count id ws a b [] (d ∷ ds) h = absurd h
draws_count id ws a b (l ∷ ls) [] h = absurd h

-- how many shots were shown
pub shots_count : {X : _} {F : _} {g : _} (s : Station X F g) (done : List Step) (shots : List Shot) (seat : FeederSeat) → HasFed s (draws_in done) seat shots → length shots ≡ length (draws_in done) + 1
shots_count s done shots seat st =
    let drawn = draws_count (carousel_of s) (weights_of s) nothing_seen (seen_in seat.pass) (draws_in done) st.drawings st.draws in
    let shown = st.shown.shown.count in omega (arith, drawn, shown)

-- there is room for a draw that comes next
room_to_draw : (setting : Setting) (done : List Step) (asked : ℕ) (fates : List Fate) → IsNext setting done (Draw asked fates) → length (draws_in done) + 1 ≤ draws_of setting
room_to_draw setting done asked fates next =
    let before : length (draws_in (before_steps setting.parts)) ≡ length (draws_in done) + suc (length (draws_in next.0)) =
    ap (λ (es : List Step). length (draws_in es)) next.1 ∙ ap (λ (xs : List DrawFields). length xs) (draws_more done (Draw asked fates ∷ next.0))
    ∙ length-append (draws_in done) (draws_in (Draw asked fates ∷ next.0)) in
    let first = count_done draws_in draws_more setting in let all = count_all draws_in draws_more setting in omega (arith, before, first, all)

pub draw_has_room : {X : _} {F : _} {g : _} (setting : Setting) (s : Station X F g) (done : List Step) (shots : List Shot) (seat : FeederSeat) (d : Happening) (asked : ℕ) (fates : Vec Fate Global) (most : ℕ)
    → FeederStands setting s done shots seat → d ≡ deeds.Draw asked fates → IsNext setting done (view_happening d) → most ≡ draws_of setting → length shots ≤ most
draw_has_room setting s done shots seat d asked fates most st is next same =
    let room = room_to_draw setting done asked fates.items (subst (λ (x : Happening). IsNext setting done (view_happening x)) is next) in
    let count = shots_count s done shots seat st.fed in omega (arith, room, count, same)

-- ---- the first shot

pub first_shown : (down : DownlinkState) (first : Shot) (shots : List Shot) → DownlinkStands down 256 [] [] [] → shots ≡ first ∷ []
    → view first ≡ snapshot_after 0 0 (candidates_after [] 0) → HasShown [] down shots
first_shown down first shots stands is seen = record { carried = stands; shown = subst (AreShots []) (sym is) (record { count = refl; each = each }) }
  where
    each : (k : ℕ) (shot : Shot) → slice_get (first ∷ []) k ≡ Some shot → view shot ≡ snapshot_after k k (candidates_after [] k)
    each zero shot h = let same : first ≡ shot = cc in subst (λ (s : Shot). view s ≡ snapshot_after 0 0 (candidates_after [] 0)) same seen
    each (suc k) shot h = absurd (cc)

-- the viewers of a new board
pub new_viewers : (setting : Setting) (board : Book) (most : ℕ) (shots : List Shot) → board ≡ setting.board → most ≡ draws_of setting → (vs : List (Viewer Shot))
    → Each (λ (v : Viewer Shot). (viewer_board v ≡ board) × (most_of v ≡ most) × (known_of v ≡ shots) × (told_of v ≡ shots)) vs → All (IsViewerOf setting shots) vs
new_viewers setting board most shots b m [] h = All-nil (IsViewerOf setting shots)
new_viewers setting board most shots b m (v ∷ vs) h = All-cons (IsViewerOf setting shots) v vs (h.0.0 ∙ b, h.0.1 ∙ m, h.0.2, h.0.3) (new_viewers setting board most shots b m vs h.1)

-- ---- the passes of a new station

-- of its passes the last is the feeder's
last_pass : {X : _} {F : _} {g : _} (s : Station X F g) (first : ℕ) (ps : List (Pass Kept KeptItem)) (p : Pass Kept KeptItem) → AreNewPasses s first (ps ++ p ∷ [])
    → AreNewPasses s first ps × IsStationPass s p × (entries_seen p ≡ []) × (own_entries p ≡ [])
last_pass s first [] p h = (tt, h.0, h.2, h.3)
last_pass s first (q ∷ ps) p h = let r = last_pass s (suc first) ps p h.4 in ((h.0, h.1, h.2, h.3, r.0), r.1, r.2, r.3)

pub popped_pass : {X : _} {F : _} {g : _} (s : Station X F g) (all rest : List (Pass Kept KeptItem)) (o : Option (Pass Kept KeptItem)) (p : Pass Kept KeptItem) → all ≡ rest ++ option_to_list o → o ≡ Some p → AreNewPasses s 0 all
    → AreNewPasses s 0 rest × IsStationPass s p × (entries_seen p ≡ []) × (own_entries p ≡ [])
popped_pass s all rest o p is some h =
    last_pass s 0 rest p (subst (AreNewPasses s 0) (is ∙ ap (λ (x : Option (Pass Kept KeptItem)). rest ++ option_to_list x) some) h)

-- ---- the plan

-- all draws were counted
pub draws_counted : (setting : Setting) (plan : Plan) → IsPlanOf setting.parts plan
    → length (draws_in (map view_happening plan.before.items)) + length plan.work.draws.items + length (settling_lines plan.settles) ≡ draws_of setting
draws_counted setting plan h = let a = ap (λ (es : List Step). length (draws_in es)) h.before in
    let b = ap (λ (ds : List DrawFields). length ds) h.work.draws in let l = length-map plan.work.draws.items draw_of in
    let c = ap (λ (b : Bool). length (settling_lines b)) h.settles in let e = ap (λ (ds : List DrawFields). length ds) (draws_at_end setting.parts) in
    let first = count_done draws_in draws_more setting in let all = count_all draws_in draws_more setting in omega (arith, a, b, c, e, l, first, all)

-- ---- the start

module _ (setting : Setting) (shots : List Shot) (start : Start) (u : IsBegun setting shots start) where
  pub few_editors : length start.plan.editors.items ≤ MOST_ACTORS
  few_editors = let m = setting.ranges.editors.most in let e = ap (λ (v : Vec ℕ Global). length v.items) u.planned.editors in omega (arith, m, e)

  pub few_readers : length start.plan.readers.items ≤ MOST_ACTORS
  few_readers = let m = setting.ranges.readers.most in let e = ap (λ (v : Vec ℕ Global). length v.items) u.planned.readers in omega (arith, m, e)

  pub editors_are : (ns : List ℕ) → ns ≡ start.plan.editors.items → ns ≡ setting.parts.editors.items
  editors_are ns is = is ∙ ap (λ (v : Vec ℕ Global). v.items) u.planned.editors

  pub readers_are : (ns : List ℕ) → ns ≡ start.plan.readers.items → ns ≡ setting.parts.readers.items
  readers_are ns is = is ∙ ap (λ (v : Vec ℕ Global). v.items) u.planned.readers

  pub finales_are : (n : ℕ) → lists_of start.plan.finales n ≡ opens_by n (end_steps setting.parts)
  finales_are n = u.planned.finales n ∙ sym (opens_at_end n setting.parts)

  -- the feeder before any event
  pub feeder_first : {X : _} {F : _} {g : _} (s : Station X F g) (seat : FeederSeat) → IsStationPass s seat.pass × (entries_seen seat.pass ≡ []) × (own_entries seat.pass ≡ [])
      → seat.downlink ≡ start.downlink → seat.draws ≡ start.plan.work.draws → seat.fates.items ≡ [] → FeederStands setting s [] shots seat
  feeder_first s seat pass downlink draws fates = record {
    fed = record {
      pass = pass.0;
      drawings = [];
      draws = λ i. record { entries = pass.1 i; own = pass.2 i };
      shown = subst (λ (d : DownlinkState). HasShown [] d shots) (sym downlink) u.shown;
      fates = ap (map (λ (f : Vec Fate Global). f.items)) fates;
    };
    draws = ap (λ (v : Vec DrawLine Global). map draw_of v.items) draws ∙ u.planned.work.draws;
    in_range = subst (λ (v : Vec DrawLine Global). All IsDrawLine v.items) (sym draws) u.planned.work.in_range;
  }

  -- once the threads are done
  pub are_done : {X : _} {F : _} {g : _} (s : Station X F g) (cast : Cast) (now : List Shot) (given : List ℕ) → given ≡ start.plan.editors.items → carousel_of s ≡ 1 → pass_count s ≡ length start.plan.editors.items + 1
      → CastDone setting s now cast → AreDone setting start.plan.settles s given now cast
  are_done s cast now given same carousel count h = record {
    settled = u.planned.settles;
    carousel = carousel;
    passes = let e = ap (λ (v : Vec ℕ Global). length v.items) u.planned.editors in let l = length-map cast.editors.items (λ (seat : EditorSeat). seat.number) in let n = ap (λ (ns : List ℕ). length ns) h.editors_are in omega (arith, count, e, l, n);
    numbers_are = editors_are given same;
    done = h;
  }
