-- Whoever hears whole cycles that are sent after tables has each path of the tree.
use Rattle.std.proofs.Common.{◌≡◌, ℕ, zero, suc, ◌+◌, ◌<◌, List, [], ◌∷◌, ◌++◌, length, map, replicate, refl, sym, ap, ap₂, ◌∙◌, subst, arith, append-nil}
use Rattle.std.specs.List.{All, flat_map}
use Rattle.std.proofs.lemmas.List.{map-append}
use Rattle.std.proofs.lemmas.List.Elements.{All-replicate}
use Rattle.path_tree.specs.Paths.{PathNames}
use Rattle.path_tree.specs.Trees.{Tree, node_at}
use Rattle.cycle_planner.specs.Cycle.{cycle_of}
use Rattle.cycle_planner.specs.Weights.{AreWeights}
use Rattle.cycle_planner.specs.declared.Item.{Item}
use Rattle.generation.specs.Layouts.{lines_in}
use Rattle.generation.specs.Lawful.{IsPublishable, section_in}
use Rattle.section_stream.specs.Cuts.{Received, candidates}
use Rattle.section_stream.specs.Groups.{IsBetween, packets_of_group, packets_of_groups, past_group, PacketsGiveTheGroups}
use Rattle.section_stream.specs.Packing.{MuxState, IsSectionLike, end_packets, idle, past}
use Rattle.section_stream.proofs.CallerLemmas.{between_idle, group_cut, one_given}
use Rattle.psi_tables.specs.Written.{AnnouncerState, announcer_packets, packets_of_table, past_table, pat_spelling, pmt_spelling}
use Rattle.psi_tables.proofs.CallerLemmas.{pat_framed, pmt_framed}
use Rattle.tuner_core.specs.LookBack.{answer_after}
use Rattle.carousel_world.specs.Broadcasts.{sections}
use Rattle.carousel_world.specs.Headline.{IsNodeAnswer}
use Rattle.carousel_world.specs.Publishing.{EachCycleOpens, PublicationsCanBePacked, layout_for, layouts_for, packets_sent, publication, repeat_list}
use Rattle.carousel_world.proofs.CallerLemmas.{published_sections}
use Rattle.shell_streams.specs.Cuts.{Bytes}
use Rattle.shell_streams.specs.Packets.{AreSized, candidates_of}
use Rattle.shell_commands.specs.Announced.{Senders, senders_start, cycle_sent, after_cycle, cycles_sent, after_cycles, one_cycle, published_after}
use Rattle.shell_commands.specs.Reception.{CyclesOpen}
use Rattle.shell_commands.proofs.Receiving.{all_sized, packets_back}
use Rattle.shell_commands.proofs.Interleaving.{heard_alone, heard_both, heard_of, tables_are_others}

-- each sender has its PID, and those of the tables hold nothing back between cycles
record HavePids (s : Senders) : Type 0 where
  pub tables : s.tables.tables.pid ≡ 0
  pub maps : s.tables.maps.pid ≡ 32
  pub objects : s.objects.pid ≡ 256
  pub counter : s.objects.counter < 16
  pub tables_between : IsBetween s.tables.tables
  pub maps_between : IsBetween s.tables.maps

past_between : (m : MuxState) (table : Bytes) → IsBetween (past_table m table)
past_between m table = let held : MuxState = past m table in between_idle m.pid (held.counter + length (end_packets held.tail held.body))

pids_start : (carousel : ℕ) → HavePids (senders_start carousel)
pids_start carousel = record { tables = refl; maps = refl; objects = refl; counter = omega arith; tables_between = between_idle 0 0; maps_between = between_idle 32 0 }

pids_next : (cycle : List Bytes) (s : Senders) → HavePids s → HavePids (after_cycle cycle s)
pids_next cycle s h = record {
  tables = h.tables;
  maps = h.maps;
  objects = h.objects;
  counter = omega arith;
  tables_between = past_between s.tables.tables pat_spelling;
  maps_between = past_between s.tables.maps (pmt_spelling s.tables.carousel);
}

pids_after : (cycle : List Bytes) (n : ℕ) (s : Senders) → HavePids s → HavePids (after_cycles cycle n s)
pids_after cycle zero s h = h
pids_after cycle (suc n) s h = pids_after cycle n (after_cycle cycle s) (pids_next cycle s h)

-- on the carousel's PID one cycle after another is heard, each a group
cycles_heard : (cycle : List Bytes) (n : ℕ) (s : Senders) → HavePids s → heard_of 256 (cycles_sent cycle n s) ≡ heard_of 256 (packets_of_groups s.objects (replicate n cycle))
cycles_heard cycle zero s h = refl
cycles_heard cycle (suc n) s h =
    heard_both 256 (cycle_sent cycle s) (cycles_sent cycle n (after_cycle cycle s))
    ∙ ap₂ (λ (xs ys : List Received). xs ++ ys)
    (heard_both 256 (announcer_packets s.tables) (packets_of_group s.objects cycle) ∙ ap (λ (xs : List Received). xs ++ heard_of 256 (packets_of_group s.objects cycle)) (tables_are_others s.tables h.tables h.maps))
    (cycles_heard cycle n (after_cycle cycle s) (pids_next cycle s h))
    ∙ sym (heard_both 256 (packets_of_group s.objects cycle) (packets_of_groups (past_group s.objects cycle) (replicate n cycle)))

all_groups : (n : ℕ) (cycle : List Bytes) → flat_map (λ g. g) (replicate n cycle) ≡ repeat_list n cycle
all_groups zero cycle = refl
all_groups (suc n) cycle = ap (λ (xs : List Bytes). cycle ++ xs) (all_groups n cycle)

cycles_cut : PacketsGiveTheGroups → (cycle : List Bytes) (n : ℕ) (s : Senders) → All IsSectionLike cycle → HavePids s → candidates 256 (cycles_sent cycle n s) ≡ repeat_list n cycle
cycles_cut law cycle n s like h =
    let groups : List (List Bytes) = replicate n cycle in
    heard_alone 256 (cycles_sent cycle n s) (packets_of_groups s.objects groups) (cycles_heard cycle n s h)
    ∙ ap (λ (pid : ℕ). candidates pid (packets_of_groups s.objects groups)) (sym h.objects)
    ∙ law s.objects groups (omega (arith, h.objects)) h.counter (All-replicate (All IsSectionLike) n cycle like)
    ∙ all_groups n cycle

-- ---- the same as of a publication

map_repeated : {X Y : Type 0} (f : X → Y) (n : ℕ) (xs : List X) → map f (repeat_list n xs) ≡ repeat_list n (map f xs)
map_repeated f zero xs = refl
map_repeated f (suc n) xs = map-append f xs (repeat_list n xs) ∙ ap (λ ys. map f xs ++ ys) (map_repeated f n xs)

cycles_are : (carousel : ℕ) (weights : List ℕ) (n : ℕ) (t : Tree) → repeat_list n (one_cycle carousel weights t) ≡ sections (publication carousel weights n t)
cycles_are carousel weights n t =
    let section : Item → Bytes = section_in carousel (layouts_for carousel t) 1 in
    let cycle : List Item = cycle_of weights (lines_in (layout_for carousel t)) in
    ap (repeat_list n) (published_sections carousel weights 1 t ∙ ap (map section) (append-nil cycle)) ∙ sym (map_repeated section n cycle) ∙ sym (published_sections carousel weights n t)

-- what is cut of so many cycles is what is cut of a publication of so many
heard_as_published : PacketsGiveTheGroups → PublicationsCanBePacked → (carousel : ℕ) (weights : List ℕ) (missed heard : ℕ) (t : Tree) → carousel < 4294967296 → IsPublishable t
    → candidates 256 (cycles_sent (one_cycle carousel weights t) heard (after_cycles (one_cycle carousel weights t) missed (senders_start carousel))) ≡ candidates 256 (packets_sent 256 carousel weights heard t)
heard_as_published law can carousel weights missed heard t small publishable =
    let cycle : List Bytes = one_cycle carousel weights t in
    cycles_cut law cycle heard (after_cycles cycle missed (senders_start carousel)) (can carousel weights 1 t small publishable) (pids_after cycle missed (senders_start carousel) (pids_start carousel))
    ∙ cycles_are carousel weights heard t
    ∙ sym (group_cut law (idle 256 0) (sections (publication carousel weights heard t)) (omega arith) (omega arith) (can carousel weights heard t small publishable))

-- ---- out of bytes

sized_both : (xs ys : List Bytes) → AreSized xs → AreSized ys → AreSized (xs ++ ys)
sized_both [] ys h k = k
sized_both (x ∷ xs) ys h k = (h.0, sized_both xs ys h.1 k)

table_sized : (m : MuxState) (table : Bytes) → IsBetween m → IsSectionLike table → AreSized (packets_of_table m table)
table_sized m table between like = subst AreSized (sym (one_given m table between like).0) (all_sized m (table ∷ []))

tables_sized : (a : AnnouncerState) → IsBetween a.tables → IsBetween a.maps → AreSized (announcer_packets a)
tables_sized a t m =
    sized_both (packets_of_table a.tables pat_spelling) (packets_of_table a.maps (pmt_spelling a.carousel)) (table_sized a.tables pat_spelling t pat_framed)
    (table_sized a.maps (pmt_spelling a.carousel) m (pmt_framed a.carousel))

cycles_sized : (cycle : List Bytes) (n : ℕ) (s : Senders) → HavePids s → AreSized (cycles_sent cycle n s)
cycles_sized cycle zero s h = tt
cycles_sized cycle (suc n) s h =
    sized_both (cycle_sent cycle s) (cycles_sent cycle n (after_cycle cycle s))
    (sized_both (announcer_packets s.tables) (packets_of_group s.objects cycle) (tables_sized s.tables h.tables_between h.maps_between) (all_sized s.objects cycle))
    (cycles_sized cycle n (after_cycle cycle s) (pids_next cycle s h))

opens_by : PacketsGiveTheGroups → PublicationsCanBePacked → EachCycleOpens → (carousel : ℕ) (weights : List ℕ) (missed heard : ℕ) (t : Tree) (p : PathNames) → AreWeights weights → 0 < heard → carousel < 4294967296 → IsPublishable t
    → IsNodeAnswer (answer_after (candidates_of 256 (published_after carousel weights missed heard t)) p) (node_at t p)
opens_by law can opens carousel weights missed zero t p are some small publishable = absurd (omega arith)
opens_by law can opens carousel weights missed (suc more) t p are some small publishable =
    let cycle : List Bytes = one_cycle carousel weights t in
    let from : Senders = after_cycles cycle missed (senders_start carousel) in
    let back : candidates_of 256 (published_after carousel weights missed (suc more) t) ≡ candidates 256 (packets_sent 256 carousel weights (suc more) t) =
    ap (candidates 256) (packets_back (cycles_sent cycle (suc more) from) (cycles_sized cycle (suc more) from (pids_after cycle missed (senders_start carousel) (pids_start carousel))))
    ∙ heard_as_published law can carousel weights missed (suc more) t small publishable in
    rw back (opens 256 carousel weights more t p (omega arith) small are publishable)

pub cycles_open : PacketsGiveTheGroups → PublicationsCanBePacked → EachCycleOpens → (carousel : ℕ) (weights : List ℕ) (cycles : ℕ) → AreWeights weights → CyclesOpen carousel weights cycles
cycles_open law can opens carousel weights cycles are t missed heard p some within small publishable = opens_by law can opens carousel weights missed heard t p are some small publishable
