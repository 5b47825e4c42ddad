use Rattle.std.proofs.Common.{Ok, ap, sym, ◌∙◌}
use Rattle.path_tree.specs.Edits.{apply_all}
use Rattle.std.proofs.lemmas.Result.{err_from_is_err_and}
use Rattle.generation.specs.Layouts.{next_of}
use Rattle.generation_catalogue.proofs.Replay.{seen, looked_at, number_accepted, next_accepted, outcome_at_edit, outcome_at_limit}
use Rattle.generation_catalogue.specs.Kept.{view_journal}
use Rattle.std.specs.Arc.{arc_value}
use Rattle.generation_catalogue.proofs.journal.Journal.judge.Goals as goal

pub returns-in_err-tree-clause-answer : goal.returns-in_err-tree-clause-answer
returns-in_err-tree-clause-answer c =
    let first = seen (view_journal c.self.inside) c.args.self.now (arc_value c.self.inside.current) c.deref.result.now c.deref.ensures c.self.invariant.current c.self.view_is in
    let second = seen (view_journal c.self.inside) c.args.self.now (arc_value c.self.inside.current) c.deref-2.result.now c.deref-2.ensures c.self.invariant.current c.self.view_is in
    let look = looked_at c.args.self.now c.args.edits.now c.deref.result.now c.deref-2.result.now c.number.result c.total_with-total.result c.tree.result.now
    first c.number.ensures c.if-number-eq-LAST_GENERATION.false c.total_with-total.ensures c.if-total-gt-MOST_PUT_BYTES.false second c.tree.ensures in
    let p = err_from_is_err_and c.from_residual.result c.from_residual.ensures.1 in
    rw p.1 (outcome_at_edit c.args.self.now c.args.edits.now c.tree.result.now c.in_err-tree.field-0.0 p.0 look c.in_err-tree.ensures.applied p.2)

pub returns-in_err-publishable-clause-answer : goal.returns-in_err-publishable-clause-answer
returns-in_err-publishable-clause-answer c =
    let first = seen (view_journal c.self.inside) c.args.self.now (arc_value c.self.inside.current) c.deref.result.now c.deref.ensures c.self.invariant.current c.self.view_is in
    let second = seen (view_journal c.self.inside) c.args.self.now (arc_value c.self.inside.current) c.deref-2.result.now c.deref-2.ensures c.self.invariant.current c.self.view_is in
    let look = looked_at c.args.self.now c.args.edits.now c.deref.result.now c.deref-2.result.now c.number.result c.total_with-total.result c.tree.result.now
    first c.number.ensures c.if-number-eq-LAST_GENERATION.false c.total_with-total.ensures c.if-total-gt-MOST_PUT_BYTES.false second c.tree.ensures in
    let p = err_from_is_err_and c.from_residual-in_err-publishable.result c.from_residual-in_err-publishable.ensures.1 in
    rw p.1 (outcome_at_limit c.args.self.now c.args.edits.now c.tree.result.now c.in_ok-tree.tree c.in_err-publishable.field-0.0 p.0 look c.in_ok-tree.ensures.applied c.in_err-publishable.ensures.limit p.2)

pub returns-clause-answer : goal.returns-clause-answer
returns-clause-answer c =
    let first = seen (view_journal c.self.inside) c.args.self.now (arc_value c.self.inside.current) c.deref.result.now c.deref.ensures c.self.invariant.current c.self.view_is in
    let second = seen (view_journal c.self.inside) c.args.self.now (arc_value c.self.inside.current) c.deref-2.result.now c.deref-2.ensures c.self.invariant.current c.self.view_is in
    let look = looked_at c.args.self.now c.args.edits.now c.deref.result.now c.deref-2.result.now c.number.result c.total_with-total.result c.tree.result.now
    first c.number.ensures c.if-number-eq-LAST_GENERATION.false c.total_with-total.ensures c.if-total-gt-MOST_PUT_BYTES.false second c.tree.ensures in
    let third = seen (view_journal c.self.inside) c.args.self.now (arc_value c.self.inside.current) c.deref-3.result.now c.deref-3.ensures c.self.invariant.current c.self.view_is in
    number_accepted c.args.self.now c.args.edits.now c.tree.result.now c.in_ok-tree.tree c.deref-3.result.now c.in_ok-next_after.field-0 look c.in_ok-tree.ensures.applied c.in_ok-publishable.ensures.limit third (c.in_ok-next_after.ensures.exact ∙ ap (λ t. next_of c.deref-3.result.now t) c.in_ok-publishable.ensures.tree)

pub returns-clause-next : goal.returns-clause-next
returns-clause-next c =
    let first = seen (view_journal c.self.inside) c.args.self.now (arc_value c.self.inside.current) c.deref.result.now c.deref.ensures c.self.invariant.current c.self.view_is in
    let second = seen (view_journal c.self.inside) c.args.self.now (arc_value c.self.inside.current) c.deref-2.result.now c.deref-2.ensures c.self.invariant.current c.self.view_is in
    let look = looked_at c.args.self.now c.args.edits.now c.deref.result.now c.deref-2.result.now c.number.result c.total_with-total.result c.tree.result.now
    first c.number.ensures c.if-number-eq-LAST_GENERATION.false c.total_with-total.ensures c.if-total-gt-MOST_PUT_BYTES.false second c.tree.ensures in
    let third = seen (view_journal c.self.inside) c.args.self.now (arc_value c.self.inside.current) c.deref-3.result.now c.deref-3.ensures c.self.invariant.current c.self.view_is in
    next_accepted c.args.self.now c.args.edits.now c.tree.result.now c.in_ok-tree.tree c.deref-3.result.now c.in_ok-next_after.field-0 look c.in_ok-tree.ensures.applied c.in_ok-publishable.ensures.limit third (c.in_ok-next_after.ensures.exact ∙ ap (λ t. next_of c.deref-3.result.now t) c.in_ok-publishable.ensures.tree)

-- the tree is what the edits make of the current one's
pub next_after-requires-clause-edits : goal.next_after-requires-clause-edits
next_after-requires-clause-edits c =
    let current = c.deref-2.ensures ∙ sym c.deref-3.ensures in
    ap (λ g. apply_all g.tree c.args.edits.now) (sym current) ∙ (ap (λ t. apply_all t c.args.edits.now) (sym c.tree.ensures) ∙ (c.in_ok-tree.ensures.applied ∙ ap Ok (sym c.in_ok-publishable.ensures.tree)))
