use Rattle.std.proofs.Common.{subst, sym}
use Rattle.std.proofs.lemmas.Result.{err_from_is_err_and}
use Rattle.publication_plan.specs.Inner.Judging.{IsAccepted}
use Rattle.publication_plan.proofs.Judgement.{accepted, why_edit, why_full, why_limit}
use Rattle.publication_plan.proofs.judging.judge.Goals as goal

pub returns-then-total-gt-MOST_PUT_BYTES-clause-refused : goal.returns-then-total-gt-MOST_PUT_BYTES-clause-refused
returns-then-total-gt-MOST_PUT_BYTES-clause-refused c = why_full c.args.edits.now c.put_total-total.result c.put_total-total.ensures c.if-total-gt-MOST_PUT_BYTES.true

pub returns-in_err-tree-clause-refused : goal.returns-in_err-tree-clause-refused
returns-in_err-tree-clause-refused c =
    let p = err_from_is_err_and c.from_residual.result c.from_residual.ensures.1 in
    rw p.1 (why_edit c.args.edits.now c.put_total-total.result _ c.in_err-tree.field-0.0 p.0 c.put_total-total.ensures c.if-total-gt-MOST_PUT_BYTES.false c.empty.ensures c.in_err-tree.ensures.applied p.2)

pub returns-in_err-checked-clause-refused : goal.returns-in_err-checked-clause-refused
returns-in_err-checked-clause-refused c =
    let p = err_from_is_err_and c.from_residual-in_err-checked.result c.from_residual-in_err-checked.ensures.1 in
    rw p.1 (why_limit c.args.edits.now c.put_total-total.result _ c.in_ok-tree.tree c.in_err-checked.field-0.0 p.0 c.put_total-total.ensures c.if-total-gt-MOST_PUT_BYTES.false c.empty.ensures c.in_ok-tree.ensures.applied c.in_err-checked.ensures.limit p.2)

pub returns-clause-accepted : goal.returns-clause-accepted
returns-clause-accepted c =
    subst (IsAccepted c.args.edits.now) (sym c.in_ok-checked.ensures.tree)
    (accepted c.args.edits.now c.put_total-total.result _ c.in_ok-tree.tree c.put_total-total.ensures c.if-total-gt-MOST_PUT_BYTES.false c.empty.ensures c.in_ok-tree.ensures.applied c.in_ok-checked.ensures.limit c.in_ok-tree.ensures.tree)
