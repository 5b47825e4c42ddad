use Rattle.std.specs.Arc.{arc_value}
use Rattle.generation_catalogue.proofs.Replay.{Follows, with_entries, follows_same, follows_next}
use Rattle.generation_catalogue.proofs.journal.Journal.accept.Goals as goal

pub invariant_of-self : goal.invariant_of-self
invariant_of-self c =
    let kept : Follows (with_entries c.self.inside.carousel c.self.inside.weights c.self.inside.entries.items) (arc_value c.self.inside.current) c.self.inside.put_bytes c.self.inside.draws c.self.inside.cursor =
    record { current = c.self.invariant.current; put_bytes = c.self.invariant.put_bytes; draws = c.self.invariant.draws; cursor = c.self.invariant.cursor; number = c.self.invariant.number; history = c.self.invariant.history } in
    let after = follows_same c.self.inside.carousel c.self.inside.weights c.self.inside.entries.items c.push.new.self.items (arc_value c.self.inside.current) c.self.inside.put_bytes c.self.inside.draws c.self.inside.cursor c.in_err-push.ensures.items kept in
    record { current = after.current; put_bytes = after.put_bytes; draws = after.draws; cursor = after.cursor; number = after.number; history = after.history; stand = c.self.invariant.stand }

pub invariant_of-self-2 : goal.invariant_of-self-2
invariant_of-self-2 c =
    let kept : Follows (with_entries c.self.inside.carousel c.self.inside.weights c.self.inside.entries.items) (arc_value c.self.inside.current) c.self.inside.put_bytes c.self.inside.draws c.self.inside.cursor =
    record { current = c.self.invariant.current; put_bytes = c.self.invariant.put_bytes; draws = c.self.invariant.draws; cursor = c.self.invariant.cursor; number = c.self.invariant.number; history = c.self.invariant.history } in
    let after = follows_next c.self.inside.carousel c.self.inside.weights c.self.inside.entries.items c.push.new.self.items c.args.self.now c.args.editor c.args.edits c.list.result.now c.number-number.result c.args.next.number c.total_with-total.result
    (arc_value c.self.inside.current) (arc_value c.in_ok-next.next) c.args.next c.self.inside.put_bytes c.self.inside.draws c.self.inside.cursor c.self.view_is c.in_ok-push.ensures.items c.requires.accepted c.number-number.ensures c.requires.next c.requires.tree c.in_ok-next.ensures.ok
    c.list.ensures c.total_with-total.ensures kept in
    record { current = after.current; put_bytes = after.put_bytes; draws = after.draws; cursor = after.cursor; number = after.number; history = after.history; stand = λ i. 0 }
