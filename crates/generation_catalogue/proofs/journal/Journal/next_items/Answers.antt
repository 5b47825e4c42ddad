use Rattle.std.proofs.Common.{ℕ, ◌+◌, ◌-◌, min, ap, sym, ◌∙◌, subst}
use Rattle.std.specs.Arc.{arc_value}
use Rattle.generation_catalogue.specs.History.{count_drawn, cursor_of}
use Rattle.generation_catalogue.specs.Kept.{view_journal}
use Rattle.generation_catalogue.specs.Inner.Kept.{StandsIn}
use Rattle.generation_catalogue.proofs.Drawing.{drawn_items, few_left, same_lines, stand_here}
use Rattle.generation_catalogue.proofs.journal.Journal.next_items.Goals as goal

pub taken-requires-clause-walk : goal.taken-requires-clause-walk
taken-requires-clause-walk g c =
    let lines = same_lines (view_journal c.self.inside) c.args.self.now (arc_value c.self.inside.current) c.deref.result.now c.lines-lines.result.now c.lines-lines.ensures.exact c.deref.ensures c.self.invariant.current c.self.view_is in
    (stand_here c.args.self.now c.args.weigh.now.weights c.lines-lines.result.now (cursor_of c.args.self.now) c.stand_now-stand.result c.requires lines c.stand_now-stand.ensures).goes_on

pub taken-requires-clause-count : goal.taken-requires-clause-count
taken-requires-clause-count g c =
    let lines = same_lines (view_journal c.self.inside) c.args.self.now (arc_value c.self.inside.current) c.deref.result.now c.lines-lines.result.now c.lines-lines.ensures.exact c.deref.ensures c.self.invariant.current c.self.view_is in
    let place = c.self.invariant.cursor ∙ ap cursor_of c.self.view_is in
    let count = c.min-count.ensures ∙ ap (λ (a : ℕ). min a (c.stand_now-stand.result.length - c.self.inside.cursor)) c.from.ensures in
    few_left c.args.self.now c.args.weigh.now.weights c.lines-lines.result.now c.stand_now-stand.result c.args.asked c.self.inside.cursor c.min-count.result place
    (stand_here c.args.self.now c.args.weigh.now.weights c.lines-lines.result.now (cursor_of c.args.self.now) c.stand_now-stand.result c.requires lines c.stand_now-stand.ensures) count

pub returns-clause-items : goal.returns-clause-items
returns-clause-items g c =
    let lines = same_lines (view_journal c.self.inside) c.args.self.now (arc_value c.self.inside.current) c.deref.result.now c.lines-lines.result.now c.lines-lines.ensures.exact c.deref.ensures c.self.invariant.current c.self.view_is in
    let place = c.self.invariant.cursor ∙ ap cursor_of c.self.view_is in
    let count = c.min-count.ensures ∙ ap (λ (a : ℕ). min a (c.stand_now-stand.result.length - c.self.inside.cursor)) c.from.ensures in
    (drawn_items c.args.self.now c.args.weigh.now.weights c.lines-lines.result.now c.stand_now-stand.result c.in_ok-items.next c.args.asked c.self.inside.cursor c.min-count.result c.in_ok-items.items.items
    c.requires lines place c.stand_now-stand.ensures count c.in_ok-items.ensures.items c.in_ok-items.ensures.walk c.in_ok-items.ensures.left).0

pub returns-clause-count : goal.returns-clause-count
returns-clause-count g c =
    let lines = same_lines (view_journal c.self.inside) c.args.self.now (arc_value c.self.inside.current) c.deref.result.now c.lines-lines.result.now c.lines-lines.ensures.exact c.deref.ensures c.self.invariant.current c.self.view_is in
    let place = c.self.invariant.cursor ∙ ap cursor_of c.self.view_is in
    let count = c.min-count.ensures ∙ ap (λ (a : ℕ). min a (c.stand_now-stand.result.length - c.self.inside.cursor)) c.from.ensures in
    (drawn_items c.args.self.now c.args.weigh.now.weights c.lines-lines.result.now c.stand_now-stand.result c.in_ok-items.next c.args.asked c.self.inside.cursor c.min-count.result c.in_ok-items.items.items
    c.requires lines place c.stand_now-stand.ensures count c.in_ok-items.ensures.items c.in_ok-items.ensures.walk c.in_ok-items.ensures.left).1

pub returns-clause-stand : goal.returns-clause-stand
returns-clause-stand g c =
    let lines = same_lines (view_journal c.self.inside) c.args.self.now (arc_value c.self.inside.current) c.deref.result.now c.lines-lines.result.now c.lines-lines.ensures.exact c.deref.ensures c.self.invariant.current c.self.view_is in
    let place = c.self.invariant.cursor ∙ ap cursor_of c.self.view_is in
    let count = c.min-count.ensures ∙ ap (λ (a : ℕ). min a (c.stand_now-stand.result.length - c.self.inside.cursor)) c.from.ensures in
    let stands = (drawn_items c.args.self.now c.args.weigh.now.weights c.lines-lines.result.now c.stand_now-stand.result c.in_ok-items.next c.args.asked c.self.inside.cursor c.min-count.result c.in_ok-items.items.items
    c.requires lines place c.stand_now-stand.ensures count c.in_ok-items.ensures.items c.in_ok-items.ensures.walk c.in_ok-items.ensures.left).2 in
    subst (StandsIn c.args.self.now (cursor_of c.args.self.now + count_drawn c.args.self.now c.args.asked)) (sym c.moved.ensures) stands
