-- After two whole draws a whole cycle of the last generation was heard.
use Rattle.std.proofs.Common.{◌≡◌, ℕ, ◌+◌, ◌<◌, ◌≤◌, cond, List, [], ◌∷◌, ◌++◌, length, map, drop, refl, ap, sym, ◌∙◌, subst, arith, lit<}
use Rattle.std.specs.List.{All, fold}
use Rattle.std.proofs.lemmas.Bool.{lt-leb}
use Rattle.std.proofs.lemmas.List.{append-nil, length-map, map-append}
use Rattle.std.proofs.lemmas.List.Elements.{All-cons, All-drop, All-head, All-map, All-nil, All-take}
use Rattle.std.proofs.lemmas.List.Sums.{fold-append}
use Rattle.path_tree.specs.Paths.{Bytes}
use Rattle.biop_object.specs.Names.{Layout}
use Rattle.cycle_planner.specs.Cycle.{cycle_of}
use Rattle.cycle_planner.specs.Weights.{AreWeights}
use Rattle.cycle_planner.specs.declared.Item.{Item}
use Rattle.dsmcc_section.specs.Sections as sections
use Rattle.generation.specs.Layouts.{GenerationState, lines_in, section_of}
use Rattle.generation.specs.Lawful.{ArePublishable, layout_at, section_in}
use Rattle.generation.specs.Kept.{layouts_of, LayoutsAreLawful, GenerationsAreOfTheLists}
use Rattle.generation_catalogue.specs.History.{CatalogueState, trees_of, current_of, cycle_in, cursor_of, count_drawn, items_drawn, draws_of}
use Rattle.generation_catalogue.specs.Laws.{HistoriesGrow}
use Rattle.section_stream.specs.Cuts.{candidates}
use Rattle.section_stream.specs.Groups.{packets_of_group, packets_of_groups, past_group, LaterGroupsAreGiven}
use Rattle.section_stream.specs.Packing.{MuxState, IsSectionLike}
use Rattle.section_stream.proofs.CallerLemmas.{counter_in_range, pid_stays, some_packets}
use Rattle.carousel_world.specs.Fates.{Arrival, under}
use Rattle.carousel_world.specs.Events.{Step}
use Rattle.carousel_world.specs.Premises.{IsWhole}
use Rattle.carousel_world.specs.Promises.{broadcast_of, world_after, HoldsAfter, EveryRunMeetsTheHeadline}
use Rattle.carousel_world.specs.Settling.{whole_draw, with_settling, EverySettledRunIsWhole, EverySettledRunOpens}
use Rattle.carousel_world.specs.World.{WorldState, Drawing, drawing_of, sections_of, groups_sent, arrivals, first_packet, candidates_in, initial_world, happens}
use Rattle.carousel_world.proofs.Cycles.{cycle_items, cycle_is_round}
use Rattle.carousel_world.proofs.Opening.{round_is_whole}
use Rattle.carousel_world.proofs.Happening.{framed_is_like}
use Rattle.carousel_world.proofs.Modules.{IsSent, is_sent}
use Rattle.carousel_world.proofs.Promised.{after-append, grows_all}
use Rattle.carousel_world.proofs.Saying.{Spelled, item_framed}
use Rattle.carousel_world.proofs.Sending.{received_push}
use Rattle.carousel_world.proofs.WholeDraws.{IsShort, turned, short_cycle, some_drawn, cycle_drawn, draws_more, is_of_lists, last_section, sent_by}

pub record Laws : Type 0 where
  pub grow : HistoriesGrow
  pub lists : GenerationsAreOfTheLists
  pub lawful : LayoutsAreLawful
  pub later : LaterGroupsAreGiven
  pub spelled : Spelled
  pub framed : (s : sections.Fields) → sections.Fits s → sections.IsFramed (sections.spelling s)

-- ---- what arrives

all_arrive : (i n : ℕ) (packets : List Bytes) → map (λ a. a.1) (under [] i n packets) ≡ packets
all_arrive i n [] = refl
all_arrive i n (p ∷ ps) = ap (λ xs. p ∷ xs) (all_arrive (i + 1) (n + 1) ps)

-- a draw of which all packets arrive
abbrev pub undamaged : GenerationState → List Item → Drawing
undamaged g items = record { generation = g; items = items; fates = [] }

abbrev pub mux_after : List Drawing → MuxState
mux_after ds = fold past_group first_packet (groups_sent ds)

one_arrives : (ds : List Drawing) (g : GenerationState) (items : List Item)
    → map (λ a. a.1) (arrivals (ds ++ undamaged g items ∷ [])) ≡ map (λ a. a.1) (arrivals ds) ++ packets_of_group (mux_after ds) (map (section_of g) items)
one_arrives ds g items =
    received_push ds (undamaged g items)
    ∙ ap (λ ps. map (λ a. a.1) (arrivals ds) ++ ps) (all_arrive 0 0 (packets_of_group (mux_after ds) (map (section_of g) items)))

two_arrive : (ds : List Drawing) (g h : GenerationState) (first second : List Item)
    → map (λ a. a.1) (arrivals ((ds ++ undamaged g first ∷ []) ++ undamaged h second ∷ []))
    ≡ (map (λ a. a.1) (arrivals ds) ++ packets_of_group (mux_after ds) (map (section_of g) first))
    ++ packets_of_group (past_group (mux_after ds) (map (section_of g) first)) (map (section_of h) second)
two_arrive ds g h first second =
    let before = map (λ (a : Arrival). a.1) (arrivals ds) ++ packets_of_group (mux_after ds) (map (section_of g) first) in
    let last = map (section_of h) second in
    let mux : mux_after (ds ++ undamaged g first ∷ []) ≡ past_group (mux_after ds) (map (section_of g) first) =
    ap (fold past_group first_packet) (map-append sections_of ds (undamaged g first ∷ [])) ∙ fold-append past_group first_packet (groups_sent ds) (map (section_of g) first ∷ []) in
    one_arrives (ds ++ undamaged g first ∷ []) h second
    ∙ ap (λ ps. ps ++ packets_of_group (mux_after (ds ++ undamaged g first ∷ [])) last) (one_arrives ds g first)
    ∙ ap (λ m. before ++ packets_of_group m last) mux

-- ---- what is heard

-- a group with a section has a packet
some_sent : (m : MuxState) (group : List Bytes) → 0 < length group → All IsSectionLike group → 0 < length (packets_of_groups m (group ∷ []))
some_sent m [] some like = absurd (omega (arith, some))
some_sent m (s ∷ ss) some like =
    let size : 12 ≤ length s = (All-head IsSectionLike s ss like).size.0 in
    subst (λ (ps : List Bytes). 0 < length ps) (sym (append-nil (packets_of_group m (s ∷ ss)))) (some_packets m s ss (omega (arith, size)))

-- all that is heard of two draws ends with the sections of the second
ends_with : LaterGroupsAreGiven → (ds : List Drawing) (g h : GenerationState) (first second : List Item) → 0 < length first → All IsSectionLike (map (section_of g) first)
    → All IsSectionLike (map (section_of h) second)
    → (earlier : List Bytes) × (candidates 256 (map (λ a. a.1) (arrivals ((ds ++ undamaged g first ∷ []) ++ undamaged h second ∷ []))) ≡ earlier ++ map (section_of h) second)
ends_with later ds g h first second some framed like =
    let m = mux_after ds in
    let one : List Bytes = map (section_of g) first in
    let two : List Bytes = map (section_of h) second in
    let pid : m.pid ≡ 256 = pid_stays first_packet (groups_sent ds) in
    let size : length one ≡ length first = length-map first (section_of g) in
    let before = map (λ (a : Arrival). a.1) (arrivals ds) in
    let packets = (before ++ packets_of_groups m (one ∷ [])) ++ packets_of_groups (past_group m one) (two ∷ []) in
    let grouped : (before ++ packets_of_group m one) ++ packets_of_group (past_group m one) two ≡ packets =
    ap (λ ps. (before ++ ps) ++ packets_of_group (past_group m one) two) (sym (append-nil (packets_of_group m one)))
    ∙ ap (λ ps. (before ++ packets_of_groups m (one ∷ [])) ++ ps) (sym (append-nil (packets_of_group (past_group m one) two))) in
    let heard = later m before (one ∷ []) (two ∷ []) (subst (λ n. n < 8192) (sym pid) (lit< tt)) (counter_in_range first_packet (groups_sent ds) (lit< tt))
    (some_sent m one (omega (arith, some, size)) framed) (All-cons (All IsSectionLike) two [] like (All-nil (All IsSectionLike))) in (
      heard.0,
      ap (candidates 256) (two_arrive ds g h first second ∙ grouped) ∙ ap (λ n. candidates n packets) (sym pid) ∙ heard.1 ∙ ap (λ ss. heard.0 ++ ss) (append-nil two),
    )

-- ---- what is whole

-- what holds of all lists that end with these holds of one that ends with the same
by_end : (P : List Bytes → Type 0) (all xs ys : List Bytes) → (earlier : List Bytes) × (all ≡ earlier ++ xs) → xs ≡ ys → ((earlier : List Bytes) → P (earlier ++ ys)) → P all
by_end P all xs ys ends same whole = subst P (sym (ends.1 ∙ ap (λ ss. ends.0 ++ ss) same)) (whole ends.0)

like_each : Laws → (carousel : ℕ) (ls : List Layout) (g : ℕ) (weights : List ℕ) → IsSent carousel ls g → g < length ls
    → All (λ item. IsSectionLike (section_in carousel ls g item)) (cycle_of weights (lines_in (layout_at ls g)))
like_each laws carousel ls g weights sent lt k d inside =
    framed_is_like _ (item_framed carousel ls g laws.framed laws.spelled sent _ (cycle_items carousel ls g weights sent lt k d inside))

like_all : Laws → (carousel : ℕ) (ls : List Layout) (g : ℕ) (weights : List ℕ) → IsSent carousel ls g → g < length ls
    → All IsSectionLike (map (section_in carousel ls g) (cycle_of weights (lines_in (layout_at ls g))))
like_all laws carousel ls g weights sent lt =
    All-map IsSectionLike (section_in carousel ls g) (cycle_of weights (lines_in (layout_at ls g))) (like_each laws carousel ls g weights sent lt)

-- ---- a world after two whole draws

abbrev pub after_one : WorldState → WorldState
after_one w = record { catalogue = turned w.catalogue; drawings = w.drawings ++ drawing_of w.catalogue 1048576 [] ∷ [] }

draws_one : (w : WorldState) → draws_of w.catalogue < 16777216 → happens w whole_draw ≡ after_one w
draws_one w room = ap (λ full. cond full w (after_one w)) (lt-leb 16777216 (draws_of w.catalogue) room)

draws_two : (w : WorldState) → draws_of w.catalogue + 2 ≤ 16777216 → happens (happens w whole_draw) whole_draw ≡ after_one (after_one w)
draws_two w room =
    ap (λ v. happens v whole_draw) (draws_one w (omega (arith, room)))
    ∙ draws_one (after_one w) (let more = draws_more w.catalogue in omega (arith, room, more))

-- the second of two whole draws is a whole cycle of the last generation
second_draw : Laws → (c : CatalogueState) → IsShort c
    → map (section_of (current_of (turned c))) (items_drawn (turned c) 1048576) ≡ map (last_section c.carousel (trees_of c)) (cycle_of c.weights (lines_in (layout_at (layouts_of c.carousel (trees_of c)) (length (trees_of c)))))
second_draw laws c short =
    sent_by laws.grow laws.lists (turned c) 1048576
    ∙ ap (λ ts. map (last_section c.carousel ts) (items_drawn (turned c) 1048576)) (laws.grow.by_draw c 1048576)
    ∙ ap (map (last_section c.carousel (trees_of c))) (cycle_drawn laws.grow c short ∙ ap (λ l. cycle_of c.weights (lines_in l)) (is_of_lists laws.lists c).layout)

-- the sections of the first one are as a packer asks
first_like : Laws → (c : CatalogueState) → All (λ item. IsSectionLike (last_section c.carousel (trees_of c) item)) (cycle_in c) → All IsSectionLike (map (section_of (current_of c)) (items_drawn c 1048576))
first_like laws c each =
    let its = λ (item : Item). IsSectionLike (last_section c.carousel (trees_of c) item) in
    let left = drop (cursor_of c) (cycle_in c) in
    subst (All IsSectionLike) (sym (sent_by laws.grow laws.lists c 1048576))
    (All-map IsSectionLike (last_section c.carousel (trees_of c)) (items_drawn c 1048576) (All-take its (count_drawn c 1048576) left (All-drop its (cursor_of c) (cycle_in c) each)))

twice_whole : Laws → (w : WorldState) → AreWeights w.catalogue.weights → ArePublishable w.catalogue.carousel (trees_of w.catalogue)
    → IsWhole w.catalogue.carousel (layouts_of w.catalogue.carousel (trees_of w.catalogue)) (length (trees_of w.catalogue)) (candidates_in (after_one (after_one w)))
twice_whole laws w are published =
    let c = w.catalogue in
    let ls = layouts_of c.carousel (trees_of c) in
    let g = length (trees_of c) in
    let lawful = laws.lawful c.carousel (trees_of c) published in
    let last : length ls ≡ g + 1 = let many = lawful.as_many in omega (arith, many) in
    let sent : IsSent c.carousel ls g = is_sent c.carousel ls ([] ∷ trees_of c) g lawful (omega (arith, last)) in
    let cycle = cycle_of c.weights (lines_in (layout_at ls g)) in
    let few = short_cycle c.carousel ls g c.weights are sent in
    let same : cycle_in c ≡ cycle = ap (λ l. cycle_of c.weights (lines_in l)) (is_of_lists laws.lists c).layout in
    let short : IsShort c = let size = ap length same in omega (arith, size, few) in
    let second = second_draw laws c short in
    let like : All IsSectionLike (map (section_of (current_of (turned c))) (items_drawn (turned c) 1048576)) =
    subst (All IsSectionLike) (sym second) (like_all laws c.carousel ls g c.weights sent (omega (arith, last))) in
    let each : All (λ item. IsSectionLike (last_section c.carousel (trees_of c) item)) (cycle_in c) =
    subst (All (λ item. IsSectionLike (last_section c.carousel (trees_of c) item))) (sym same) (like_each laws c.carousel ls g c.weights sent (omega (arith, last))) in
    let heard = ends_with laws.later w.drawings (current_of c) (current_of (turned c)) (items_drawn c 1048576) (items_drawn (turned c) 1048576) (some_drawn c short) (first_like laws c each) like in
    by_end (IsWhole c.carousel ls g) _ _ _ heard second (λ earlier. round_is_whole c.carousel ls g earlier cycle last (cycle_is_round c.carousel ls g c.weights are sent))

-- ---- a run

settled_world : HistoriesGrow → (carousel : ℕ) (weights : List ℕ) (events : List Step) → draws_of (world_after carousel weights events).catalogue + 2 ≤ 16777216
    → world_after carousel weights (with_settling events) ≡ after_one (after_one (world_after carousel weights events))
settled_world grow carousel weights events room = after-append (initial_world carousel weights) events (whole_draw ∷ whole_draw ∷ []) ∙ draws_two (world_after carousel weights events) room

same_trees : HistoriesGrow → (w : WorldState) → trees_of (after_one (after_one w)).catalogue ≡ trees_of w.catalogue
same_trees grow w = grow.by_draw (turned w.catalogue) 1048576 ∙ grow.by_draw w.catalogue 1048576

pub every_whole : Laws → EverySettledRunIsWhole
every_whole laws carousel weights events are published room =
    let w = world_after carousel weights events in
    let two = after_one (after_one w) in
    let grown = grows_all laws.grow (initial_world carousel weights) events in
    let its : w.catalogue.carousel ≡ carousel = grown.carousel in
    let whole : IsWhole w.catalogue.carousel (layouts_of w.catalogue.carousel (trees_of two.catalogue)) (length (trees_of two.catalogue)) (candidates_in two) =
    subst (λ ts. IsWhole w.catalogue.carousel (layouts_of w.catalogue.carousel ts) (length ts) (candidates_in two)) (sym (same_trees laws.grow w)) (twice_whole laws w (subst AreWeights (sym grown.weights) are) published) in
    subst (λ (v : WorldState). IsWhole carousel (broadcast_of v).layouts (length (trees_of v.catalogue)) (candidates_in v)) (sym (settled_world laws.grow carousel weights events room))
    (subst (λ n. IsWhole n (layouts_of w.catalogue.carousel (trees_of two.catalogue)) (length (trees_of two.catalogue)) (candidates_in two)) its whole)

still_publishable : HistoriesGrow → (carousel : ℕ) (weights : List ℕ) (events : List Step) → ArePublishable (world_after carousel weights events).catalogue.carousel (trees_of (world_after carousel weights events).catalogue)
    → draws_of (world_after carousel weights events).catalogue + 2 ≤ 16777216 → ArePublishable (world_after carousel weights (with_settling events)).catalogue.carousel (trees_of (world_after carousel weights (with_settling events)).catalogue)
still_publishable grow carousel weights events published room =
    let w = world_after carousel weights events in
    subst (λ (v : WorldState). ArePublishable v.catalogue.carousel (trees_of v.catalogue)) (sym (settled_world grow carousel weights events room))
    (subst (ArePublishable w.catalogue.carousel) (sym (same_trees grow w)) published)

pub every_opens : EveryRunMeetsTheHeadline → Laws → EverySettledRunOpens
every_opens headline laws carousel weights events are published room undamaged_so reader p =
    let w = world_after carousel weights (with_settling events) in
    let whole = every_whole laws carousel weights events are published room in
    let its : w.catalogue.carousel ≡ carousel = (grows_all laws.grow (initial_world carousel weights) (with_settling events)).carousel in
    let holds : HoldsAfter w = (headline carousel weights (with_settling events) (still_publishable laws.grow carousel weights events published room)).holds (with_settling events) [] (sym (append-nil (with_settling events))) in
    (holds.meets undamaged_so).opens (length (trees_of w.catalogue)) p
    (subst (λ n. IsWhole n (broadcast_of w).layouts (length (trees_of w.catalogue)) (candidates_in w)) (sym its) whole)
