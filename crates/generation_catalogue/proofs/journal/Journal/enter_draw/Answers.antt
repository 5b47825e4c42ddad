use Rattle.std.proofs.Common.{ℕ, ◌+◌, ◌==◌, if◌then◌else◌, refl, ap, ◌∙◌}
use Rattle.std.specs.Arc.{arc_value}
use Rattle.generation_catalogue.specs.Kept.{view_journal}
use Rattle.generation_catalogue.proofs.Replay.{Follows, with_entries, follows_same, follows_draw}
use Rattle.generation.specs.Layouts.{GenerationState, lines_of}
use Rattle.generation_catalogue.proofs.Drawing.{within_cycle, stand_behind, stand_next}
use Rattle.generation_catalogue.proofs.journal.Journal.enter_draw.Goals as goal

pub place_after-cursor-requires : goal.place_after-cursor-requires
place_after-cursor-requires c =
    within_cycle (view_journal c.self.inside) c.args.self.now c.self.inside.cursor c.args.count c.args.asked _ c.args.stand c.self.view_is c.self.invariant.cursor c.requires.count c.requires.stand

pub invariant_of-self : goal.invariant_of-self
invariant_of-self c =
    let kept : Follows (with_entries c.self.inside.carousel c.self.inside.weights c.self.inside.entries.items) (arc_value c.self.inside.current) c.self.inside.put_bytes c.self.inside.draws c.self.inside.cursor =
    record { current = c.self.invariant.current; put_bytes = c.self.invariant.put_bytes; draws = c.self.invariant.draws; cursor = c.self.invariant.cursor; number = c.self.invariant.number; history = c.self.invariant.history } in
    let after = follows_same c.self.inside.carousel c.self.inside.weights c.self.inside.entries.items c.push.new.self.items (arc_value c.self.inside.current) c.self.inside.put_bytes c.self.inside.draws c.self.inside.cursor c.in_err-push.ensures.items kept in
    record { current = after.current; put_bytes = after.put_bytes; draws = after.draws; cursor = after.cursor; number = after.number; history = after.history; stand = c.self.invariant.stand }

pub invariant_of-self-2 : goal.invariant_of-self-2
invariant_of-self-2 c =
    let kept : Follows (with_entries c.self.inside.carousel c.self.inside.weights c.self.inside.entries.items) (arc_value c.self.inside.current) c.self.inside.put_bytes c.self.inside.draws c.self.inside.cursor =
    record { current = c.self.invariant.current; put_bytes = c.self.invariant.put_bytes; draws = c.self.invariant.draws; cursor = c.self.invariant.cursor; number = c.self.invariant.number; history = c.self.invariant.history } in
    let first = c.self.inside.cursor in
    let count = c.args.count in
    let behind = stand_behind (view_journal c.self.inside) c.args.self.now (arc_value c.self.inside.current) first count c.args.asked c.args.stand c.self.view_is c.self.invariant.current c.self.invariant.cursor c.requires.count c.requires.stand in
    let place = c.place_after-cursor.ensures ∙ ap (λ (n : ℕ). if first + count == n then 0 else first + count) behind.size in
    let number = c.number-generation.ensures ∙ ap (λ (s : GenerationState). s.number) c.deref.ensures in
    let after = follows_draw c.self.inside.carousel c.self.inside.weights c.self.inside.entries.items c.push.new.self.items c.args.self.now c.args.asked c.number-generation.result first count c.place_after-cursor.result
    (arc_value c.self.inside.current) c.self.inside.put_bytes c.self.inside.draws first c.self.view_is c.in_ok-push.ensures.items number refl c.requires.count place c.requires.asked.0 c.requires.asked.1 c.requires.room kept in
    record { current = after.current; put_bytes = after.put_bytes; draws = after.draws; cursor = after.cursor; number = after.number; history = after.history; stand = stand_next c.self.inside.weights (lines_of (arc_value c.self.inside.current)) (first + count) c.place_after-cursor.result c.args.stand c.at_place.result behind c.place_after-cursor.ensures c.at_place.ensures }
