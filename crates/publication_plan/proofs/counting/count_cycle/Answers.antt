use Rattle.std.proofs.Common.{◌≤◌, ◌*◌, length, map, refl, sym, ap, ◌∙◌, subst, arith}
use Rattle.std.specs.List.{All, Contains}
use Rattle.std.proofs.lemmas.List.Elements.{All-head, All-tail}
use Rattle.cycle_planner.specs.Cycle.{AreLines, cycle_of}
use Rattle.cycle_planner.specs.Walks.{left_of}
use Rattle.cycle_planner.proofs.CallerLemmas.{cycle_only}
use Rattle.generation.specs.Layouts.{items_of, lines_of, section_of}
use Rattle.section_stream.specs.Packing.{MuxState, idle, packets_of_all}
use Rattle.section_stream.proofs.CallerLemmas.{few_last}
use Rattle.publication_plan.specs.Telling.{cycle_sections}
use Rattle.publication_plan.proofs.Packets.{IsCounting, counting_all, counting_begins, counting_ends, counting_like, counting_more, counting_within, few_in_cycle, few_items}
use Rattle.publication_plan.proofs.counting.count_cycle.Goals as goal

pub loop-item-init : goal.loop-item-init
loop-item-init g c =
    let gen = c.args.generation.now in
    let ws = c.args.weigh.now.weights in
    let whole = c.new-walk.ensures.items ∙ ap (cycle_of ws) c.lines-lines.ensures.exact in
    record {
      walk = c.new-walk.ensures.walk;
      own = subst (All (Contains (items_of gen))) (sym whole) (cycle_only ws (lines_of gen));
      counting = subst (λ (m : MuxState). IsCounting (section_of gen) (idle 256 0) m (cycle_of ws (lines_of gen)) (left_of ws c.lines-lines.result.now c.new-walk.result) 0) (sym c.new-counter.ensures)
          (counting_begins (section_of gen) (idle 256 0) (cycle_of ws (lines_of gen)) (left_of ws c.lines-lines.result.now c.new-walk.result) whole c.requires);
    }

pub count-requires-clause-item : goal.count-requires-clause-item
count-requires-clause-item g c =
    let Own = Contains (items_of c.args.generation.now) in
    All-head Own c.in-Some.item _ (subst (All Own) c.in-Some.ensures.items c.loop-item.invariant.own)

pub count-requires-clause-like : goal.count-requires-clause-like
count-requires-clause-like g c =
    counting_like (section_of c.args.generation.now) (idle 256 0) c.loop-item.counter.mux (cycle_of c.args.weigh.now.weights (lines_of c.args.generation.now)) _ _ c.in-Some.item c.loop-item.packets c.in-Some.ensures.items c.loop-item.invariant.counting

pub overflow_add-packets : goal.overflow_add-packets
overflow_add-packets g c =
    let gen = c.args.generation.now in
    let ws = c.args.weigh.now.weights in
    let all = cycle_of ws (lines_of gen) in
    let within = counting_within (section_of gen) (idle 256 0) c.loop-item.counter.mux all _ _ c.in-Some.item c.loop-item.packets c.in_ok-packets.field-0 c.in-Some.ensures.items c.in_ok-packets.ensures.count c.loop-item.invariant.counting in
    let few : length (packets_of_all (idle 256 0) (map (section_of gen) all)) ≤ 23 * 1166016641 = few_in_cycle (section_of gen) (idle 256 0) all 1166016641 c.requires (few_items ws (lines_of gen) c.args.weigh.now.range (subst AreLines c.lines-lines.ensures.exact c.lines-lines.ensures.lines)) in
    omega (arith, within, few)

pub loop-item-preserved : goal.loop-item-preserved
loop-item-preserved g c =
    let Own = Contains (items_of c.args.generation.now) in
    record {
      walk = c.next.ensures.walk;
      own = All-tail Own c.in-Some.item _ (subst (All Own) c.in-Some.ensures.items c.loop-item.invariant.own);
      counting = counting_more (section_of c.args.generation.now) (idle 256 0) c.loop-item.counter.mux _ (cycle_of c.args.weigh.now.weights (lines_of c.args.generation.now)) _ _ c.in-Some.item c.loop-item.packets c.in_ok-packets.field-0
          c.in-Some.ensures.items c.in_ok-packets.ensures.mux c.in_ok-packets.ensures.count c.loop-item.invariant.counting;
    }

pub overflow_add-packets-2 : goal.overflow_add-packets-2
overflow_add-packets-2 g c =
    let gen = c.args.generation.now in
    let ws = c.args.weigh.now.weights in
    let all = cycle_of ws (lines_of gen) in
    let ends = counting_ends (section_of gen) (idle 256 0) c.loop-item.counter.mux all _ c.loop-item.packets c.in_default.ensures.items.0 c.loop-item.invariant.counting in
    let few : length (packets_of_all (idle 256 0) (map (section_of gen) all)) ≤ 23 * 1166016641 = few_in_cycle (section_of gen) (idle 256 0) all 1166016641 c.requires (few_items ws (lines_of gen) c.args.weigh.now.range (subst AreLines c.lines-lines.ensures.exact c.lines-lines.ensures.lines)) in
    omega (arith, ends.0, few, few_last c.loop-item.counter.mux, c.in_ok-packets-2.ensures)

pub returns-clause-packets : goal.returns-clause-packets
returns-clause-packets g c =
    let gen = c.args.generation.now in
    let ws = c.args.weigh.now.weights in
    let ends = counting_ends (section_of gen) (idle 256 0) c.loop-item.counter.mux (cycle_of ws (lines_of gen)) _ c.loop-item.packets c.in_default.ensures.items.0 c.loop-item.invariant.counting in
    counting_all (idle 256 0) c.loop-item.counter.mux (cycle_sections ws gen) c.loop-item.packets c.in_ok-packets-2.field-0 refl c.requires ends.0 ends.1 c.in_ok-packets-2.ensures

pub returns-clause-few : goal.returns-clause-few
returns-clause-few g c =
    let gen = c.args.generation.now in
    let ws = c.args.weigh.now.weights in
    let all = cycle_of ws (lines_of gen) in
    let ends = counting_ends (section_of gen) (idle 256 0) c.loop-item.counter.mux all _ c.loop-item.packets c.in_default.ensures.items.0 c.loop-item.invariant.counting in
    let few : length (packets_of_all (idle 256 0) (map (section_of gen) all)) ≤ 23 * 1166016641 = few_in_cycle (section_of gen) (idle 256 0) all 1166016641 c.requires (few_items ws (lines_of gen) c.args.weigh.now.range (subst AreLines c.lines-lines.ensures.exact c.lines-lines.ensures.lines)) in
    omega (arith, ends.0, few, few_last c.loop-item.counter.mux, c.in_ok-packets-2.ensures)
