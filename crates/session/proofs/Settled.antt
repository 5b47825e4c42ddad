-- The end of a history that settles.
use Rattle.session.proofs.Words.{◌≡◌, ℕ, ◌+◌, ◌≤◌, nat_le, List, [], ◌∷◌, ◌++◌, length, map, filter, All, sym, ap, ◌∙◌, refl, subst, arith, append_assoc, length-append, map-append, same_from_push, All-head, All-tail, All-nil, All-cons, cond_both, Fate, Edit, PathNames, node_at, ArePublishable, tree_at, HistoriesGrow, CatalogueState, with_commit, with_draw, trees_of, current_of, cursor_of, count_drawn, outcome_of, is_entered, with_entry, is_draw, Entry, Step, Commit, Draw, Open, WorldState, initial_world, happens, after_all, drawing_of, candidates_in, reply_to, replies_to, IsUndamaged, world_after, broadcast_of, IsOpening, with_settling, Answers, EverySettledRunIsWhole, EverySettledRunOpens, Reply, opens_leave, after_all-append, settled_among_opens, settling_step, Each, is_draw_step, IsRunOfWorld, DrawFields, draws_in, settling_line, IsSettled, EndsSettled, EndsWhole, EndsAnswered}
use Rattle.cycle_planner.specs.Weights.{AreWeights}
use Rattle.generation_catalogue.specs.History.{draws_of}
use Rattle.generation_catalogue.specs.declared.entry.Entry.TheVariants as entries
use Rattle.carousel_world.specs.Premises.{IsWhole}
use Rattle.session.proofs.Lists.{count_append}
use Rattle.session.proofs.Telling.{Told, IsOpenTold, Tells, tells_cut, only_opens}
use Rattle.session.proofs.Parted.{EndsDrawn}
use Rattle.session.proofs.Staged.{draws_more}
pub use Rattle.session.specs.Sessions.{steps_told as steps}

-- ---- a draw adds no tree, and one to the draws

abbrev TreesAre : WorldState → WorldState → Type 0
TreesAre w v = (v.catalogue.carousel ≡ w.catalogue.carousel) × (trees_of v.catalogue ≡ trees_of w.catalogue)

-- the world after a draw for which there is room
abbrev drawn : WorldState → ℕ → List Fate → WorldState
drawn w asked fates = record { catalogue = with_draw w.catalogue asked; drawings = w.drawings ++ drawing_of w.catalogue asked fates ∷ [] }

same_trees : HistoriesGrow → (w : WorldState) (asked : ℕ) (fates : List Fate) → TreesAre w (happens w (Draw asked fates))
same_trees grow w asked fates = cond_both (nat_le 16777216 (draws_of w.catalogue)) w (drawn w asked fates) (TreesAre w) (λ _. (refl, refl)) (λ _. (refl, grow.by_draw w.catalogue asked))

published_before : HistoriesGrow → (w : WorldState) → let v = happens (happens w settling_step) settling_step in ArePublishable v.catalogue.carousel (trees_of v.catalogue)
    → ArePublishable w.catalogue.carousel (trees_of w.catalogue)
published_before grow w h = let v = happens w settling_step in let first = same_trees grow w 1048576 [] in let second = same_trees grow v 1048576 [] in
    let middle : ArePublishable v.catalogue.carousel (trees_of v.catalogue) =
    subst (λ n. ArePublishable n (trees_of v.catalogue)) second.0 (subst (ArePublishable (happens v settling_step).catalogue.carousel) second.1 h) in
    subst (λ n. ArePublishable n (trees_of w.catalogue)) first.0 (subst (ArePublishable v.catalogue.carousel) first.1 middle)

-- ---- how many draws there are

commit_count : (c : CatalogueState) (editor : ℕ) (edits : List Edit) → draws_of (with_commit c editor edits) ≡ draws_of c
commit_count c editor edits =
    cond_both (is_entered (outcome_of c edits)) (with_entry c (entries.Commit editor edits (outcome_of c edits))) c (λ (d : CatalogueState). draws_of d ≡ draws_of c)
    (λ _. let a = count_append is_draw c.entries (entries.Commit editor edits (outcome_of c edits) ∷ []) in omega (arith, a)) (λ _. refl)

draw_count : (w : WorldState) (asked : ℕ) (fates : List Fate) → draws_of (happens w (Draw asked fates)).catalogue ≤ draws_of w.catalogue + 1
draw_count w asked fates = let more : draws_of (with_draw w.catalogue asked) ≡ draws_of w.catalogue + 1 =
    count_append is_draw w.catalogue.entries (entries.Draw asked (current_of w.catalogue).number (cursor_of w.catalogue) (count_drawn w.catalogue asked) ∷ []) in
    cond_both (nat_le 16777216 (draws_of w.catalogue)) w (drawn w asked fates) (λ (v : WorldState). draws_of v.catalogue ≤ draws_of w.catalogue + 1) (λ _. omega arith) (λ _. omega (arith, more))

draws_few : (w : WorldState) (es : List Step) → draws_of (after_all w es).catalogue ≤ draws_of w.catalogue + length (draws_in es)
draws_few w [] = omega arith
draws_few w (Commit editor edits ∷ es) = let a = commit_count w.catalogue editor edits in let r = draws_few (happens w (Commit editor edits)) es in omega (arith, a, r)
draws_few w (Draw asked fates ∷ es) = let a = draw_count w asked fates in let r = draws_few (happens w (Draw asked fates)) es in omega (arith, a, r)
draws_few w (Open reader path ∷ es) = draws_few w es

no_open_draws : (es : List Step) → All IsOpening es → draws_in es ≡ []
no_open_draws [] h = refl
no_open_draws (Commit editor edits ∷ es) h = absurd (All-head IsOpening (Commit editor edits) es h)
no_open_draws (Draw asked fates ∷ es) h = absurd (All-head IsOpening (Draw asked fates) es h)
no_open_draws (Open reader path ∷ es) h = no_open_draws es (All-tail IsOpening (Open reader path) es h)

-- ---- a history that settles

-- the world after it is that after its events before the two draws and these draws
record Settles (ws : List ℕ) (events : List Step) : Type 0 where
  before : List Step
  same : world_after 1 ws events ≡ world_after 1 ws (with_settling before)
  published : ArePublishable (world_after 1 ws before).catalogue.carousel (trees_of (world_after 1 ws before).catalogue)
  room : draws_of (world_after 1 ws before).catalogue + 2 ≤ 16777216

settles_so : HistoriesGrow → (ws : List ℕ) (events : List Step) → EndsSettled events
    → ArePublishable (world_after 1 ws events).catalogue.carousel (trees_of (world_after 1 ws events).catalogue) → length (draws_in events) ≤ 16777216 → Settles ws events
settles_so grow ws events ends published few = let before : List Step = ends.0 in let w : WorldState = world_after 1 ws (with_settling before) in
    let same : world_after 1 ws events ≡ w = ap (world_after 1 ws) ends.3 ∙ settled_among_opens 1 ws before ends.1 ends.2 ends.4 ends.5 in
    let twice : w ≡ happens (happens (world_after 1 ws before) settling_step) settling_step = after_all-append (initial_world 1 ws) before (settling_step ∷ settling_step ∷ []) in
    let IsGood : WorldState → Type 0 = λ v. ArePublishable v.catalogue.carousel (trees_of v.catalogue) in
    let parts : draws_in events ≡ draws_in before ++ settling_line ∷ (draws_in ends.1 ++ settling_line ∷ draws_in ends.2) =
    ap draws_in ends.3 ∙ draws_more before (settling_step ∷ (ends.1 ++ settling_step ∷ ends.2)) ∙ ap (λ l. draws_in before ++ settling_line ∷ l) (draws_more ends.1 (settling_step ∷ ends.2)) in
    let counted = ap length parts in let outer = length-append (draws_in before) (settling_line ∷ (draws_in ends.1 ++ settling_line ∷ draws_in ends.2)) in
    let inner = length-append (draws_in ends.1) (settling_line ∷ draws_in ends.2) in let bound = draws_few (initial_world 1 ws) before in record {
      before = before;
      same = same;
      published = published_before grow (world_after 1 ws before) (subst IsGood (same ∙ twice) published);
      room = omega (arith, counted, outer, inner, bound, few);
    }

pub ends_whole : HistoriesGrow → EverySettledRunIsWhole → (ws : List ℕ) (events : List Step) → AreWeights ws → EndsSettled events
    → ArePublishable (world_after 1 ws events).catalogue.carousel (trees_of (world_after 1 ws events).catalogue) → length (draws_in events) ≤ 16777216
    → EndsWhole ws events
ends_whole grow law ws events weigh ends published few = let s = settles_so grow ws events ends published few in
    subst (λ (v : WorldState). IsWhole 1 (broadcast_of v).layouts (length (trees_of v.catalogue)) (candidates_in v)) (sym s.same) (law 1 ws s.before weigh s.published s.room)

-- the reply at a place of a run
reply_at : (w : WorldState) (before after : List Told) (e : Step) (reply : Reply) → map (λ (x : Told). x.1) (before ++ (e, reply) ∷ after) ≡ replies_to w (steps (before ++ (e, reply) ∷ after))
    → reply ≡ reply_to (after_all w (steps before)) e
reply_at w [] after e reply h = cc
reply_at w (x ∷ before) after e reply h = reply_at (happens w x.0) before after e reply (cc)

pub draws_filtered : (told : List Told) → draws_in (steps told) ≡ draws_in (steps (filter (λ (x : Told). is_draw_step x.0) told))
draws_filtered [] = refl
draws_filtered ((Commit editor edits, reply) ∷ told) = draws_filtered told
draws_filtered ((Draw asked fates, reply) ∷ told) = ap (λ l. record { asked = asked; fates = fates } ∷ l) (draws_filtered told)
draws_filtered ((Open reader path, reply) ∷ told) = draws_filtered told

all_behind : (b a : List Step) (e : Step) → All IsOpening (b ++ e ∷ a) → All IsOpening a
all_behind [] a e h = All-tail IsOpening e a h
all_behind (x ∷ b) a e h = all_behind b a e (All-tail IsOpening x (b ++ e ∷ a) h)

-- after an open that no draw follows there are opens alone
opens_last : (xs z b a : List Step) (reader : ℕ) (path : PathNames) → xs ++ settling_step ∷ z ≡ b ++ Open reader path ∷ a → All IsOpening z → draws_in a ≡ [] → All IsOpening a
opens_last [] z [] a reader path h opens none = absurd (cc)
opens_last [] z (y ∷ b) a reader path h opens none = let e : z ≡ b ++ Open reader path ∷ a = cc in all_behind b a (Open reader path) (subst (All IsOpening) e opens)
opens_last (x ∷ xs) z [] a reader path h opens none = let e : xs ++ settling_step ∷ z ≡ a = cc in
    let some = ap length (sym (draws_more xs (settling_step ∷ z)) ∙ ap draws_in e ∙ none) in
    let size = length-append (draws_in xs) (settling_line ∷ draws_in z) in absurd (omega (arith, some, size))
opens_last (x ∷ xs) z (y ∷ b) a reader path h opens none = opens_last xs z b a reader path (cc) opens none

pub ends_answered : HistoriesGrow → EverySettledRunOpens → (ws : List ℕ) (told : List Told) → AreWeights ws → IsRunOfWorld 1 ws told → EndsSettled (steps told)
    → ArePublishable (world_after 1 ws (steps told)).catalogue.carousel (trees_of (world_after 1 ws (steps told)).catalogue) → length (draws_in (steps told)) ≤ 16777216
    → EndsAnswered ws told
ends_answered grow law ws told weigh run ends published few undamaged before after reader path reply cut none =
    let s = settles_so grow ws (steps told) ends published few in let all : WorldState = world_after 1 ws (steps told) in
    let here : WorldState = world_after 1 ws (steps before) in
    let Looks : WorldState → WorldState → Type 0 = λ u v. Answers (reply_to u (Open reader path)) (node_at (tree_at (broadcast_of v).trees (length (trees_of v.catalogue))) path) in
    let last : Looks all all = subst (λ v. Looks v v) (sym s.same) (law 1 ws s.before weigh s.published s.room (subst IsUndamaged s.same undamaged) reader path) in
    let parts : steps told ≡ steps before ++ Open reader path ∷ steps after = ap steps cut ∙ map-append (λ (x : Told). x.0) before ((Open reader path, reply) ∷ after) in
    let opens : All IsOpening (steps after) =
    opens_last (ends.0 ++ settling_step ∷ ends.1) ends.2 (steps before) (steps after) reader path
    (append_assoc ends.0 (settling_step ∷ ends.1) (settling_step ∷ ends.2) ∙ sym ends.3 ∙ parts) ends.5 (draws_filtered after ∙ ap (λ (l : List Told). draws_in (steps l)) none) in
    let same : all ≡ here = ap (world_after 1 ws) parts ∙ after_all-append (initial_world 1 ws) (steps before) (Open reader path ∷ steps after) ∙ opens_leave here (steps after) opens in
    let is : reply ≡ reply_to here (Open reader path) =
    reply_at (initial_world 1 ws) before after (Open reader path) reply (subst (λ l. map (λ (x : Told). x.1) l ≡ replies_to (initial_world 1 ws) (steps l)) cut run) in
    subst (λ r. Answers r (node_at (tree_at (broadcast_of all).trees (length (trees_of all.catalogue))) path)) (sym is) (subst (λ u. Looks u all) same last)

-- ---- where the catalogue's last entries are two draws, so are the last events but opens

opened_steps : (told : List Told) → Each IsOpenTold told → All IsOpening (steps told)
opened_steps [] h = All-nil IsOpening
opened_steps (x ∷ told) h = All-cons IsOpening x.0 (steps told) (subst (λ (y : Told). IsOpening y.0) (sym (h.0).2) tt) (opened_steps told h.1)

abbrev draw_of : List Fate → DrawFields
draw_of fates = record { asked = 1048576; fates = fates }

-- the draws of such events, and that the fates of the last two are those of `settle`
drawn_at_end : (a b z : List Step) (f g : List Fate) → All IsOpening b → All IsOpening z → draws_in (a ++ Draw 1048576 f ∷ b ++ Draw 1048576 g ∷ z) ≡ (draws_in a ++ draw_of f ∷ []) ++ draw_of g ∷ []
drawn_at_end a b z f g opens later = draws_more (a ++ Draw 1048576 f ∷ b) (Draw 1048576 g ∷ z)
    ∙ ap (λ l. l ++ draw_of g ∷ draws_in z) (draws_more a (Draw 1048576 f ∷ b))
    ∙ (λ i. (draws_in a ++ draw_of f ∷ no_open_draws b opens i) ++ draw_of g ∷ no_open_draws z later i)

ends_by : (a b z events : List Step) (f g : List Fate) → events ≡ a ++ Draw 1048576 f ∷ b ++ Draw 1048576 g ∷ z → All IsOpening b → All IsOpening z
    → EndsDrawn (draws_in events) → EndsSettled events
ends_by a b z events f g cut opens later drew =
    let both : (draws_in a ++ draw_of f ∷ []) ++ draw_of g ∷ [] ≡ (drew.0 ++ settling_line ∷ []) ++ settling_line ∷ [] =
    sym (drawn_at_end a b z f g opens later) ∙ ap draws_in (sym cut) ∙ drew.1 ∙ sym (append_assoc drew.0 (settling_line ∷ []) (settling_line ∷ [])) in
    let outer = same_from_push (draws_in a ++ draw_of f ∷ []) (drew.0 ++ settling_line ∷ []) (draw_of g) settling_line both in
    let inner = same_from_push (draws_in a) drew.0 (draw_of f) settling_line outer.0 in let first : f ≡ [] = ap (λ (d : DrawFields). d.fates) inner.1 in
    let second : g ≡ [] = ap (λ (d : DrawFields). d.fates) outer.1 in
    (a, b, z, cut ∙ (λ i. a ++ Draw 1048576 (first i) ∷ b ++ Draw 1048576 (second i) ∷ z) ∙ append_assoc a (settling_step ∷ b) (settling_step ∷ z), opens, later)

-- what is told of two draws that come last
cut_twice : (a b z : List Told) (x y : Told) (f g : List Fate) → x.0 ≡ Draw 1048576 f → y.0 ≡ Draw 1048576 g → steps ((a ++ x ∷ b) ++ y ∷ z) ≡ steps a ++ Draw 1048576 f ∷ steps b ++ Draw 1048576 g ∷ steps z
cut_twice a b z x y f g one two = map-append (λ (w : Told). w.0) (a ++ x ∷ b) (y ∷ z) ∙ ap (λ l. l ++ y.0 ∷ steps z) (map-append (λ (w : Told). w.0) a (x ∷ b))
    ∙ (λ i. (steps a ++ one i ∷ steps b) ++ two i ∷ steps z)

ends_told : (a b z l told : List Told) (x y : Told) (f g : List Fate) → told ≡ l ++ y ∷ z → l ≡ a ++ x ∷ b → x.0 ≡ Draw 1048576 f → y.0 ≡ Draw 1048576 g → Each IsOpenTold b → Each IsOpenTold z
    → EndsDrawn (draws_in (steps told)) → EndsSettled (steps told)
ends_told a b z l told x y f g late early one two opens later drew = let whole : told ≡ (a ++ x ∷ b) ++ y ∷ z = late ∙ ap (λ m. m ++ y ∷ z) early in
    ends_by (steps a) (steps b) (steps z) (steps told) f g (ap steps whole ∙ cut_twice a b z x y f g one two) (opened_steps b opens) (opened_steps z later) drew

pub ends_settled : (editors : List ℕ) (c : CatalogueState) (told : List Told) → Tells editors c.entries told → IsSettled c → EndsDrawn (draws_in (steps told)) → EndsSettled (steps told)
ends_settled editors c told h settled drew = let old : CatalogueState = settled.0 in let mid : CatalogueState = with_draw old 1048576 in
    let first : Entry = entries.Draw 1048576 (current_of old).number (cursor_of old) (count_drawn old 1048576) in
    let second : Entry = entries.Draw 1048576 (current_of mid).number (cursor_of mid) (count_drawn mid 1048576) in
    let all : c.entries ≡ (old.entries ++ first ∷ []) ++ second ∷ [] = ap (λ (d : CatalogueState). d.entries) settled.1 in
    let late = tells_cut editors (old.entries ++ first ∷ []) [] second told (subst (λ l. Tells editors l told) all h) in
    let early = tells_cut editors old.entries [] first late.0 late.4 in
    ends_told early.0 early.2 late.2 late.0 told early.1 late.1 (early.5).0 (late.5).0 late.3 early.3 (ap (λ (x : Told). x.0) (early.5).1) (ap (λ (x : Told). x.0) (late.5).1)
    (only_opens editors early.2 early.6) (only_opens editors late.2 late.6) drew
