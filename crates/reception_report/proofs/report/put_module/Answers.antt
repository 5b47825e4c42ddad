use Rattle.std.proofs.Common.{◌∙◌}
use Rattle.std.proofs.lemmas.Result.{err_from_is_err_and}
use Rattle.shell_streams.proofs.CallerLemmas.{puts_none, puts_nothing, puts_as}
use Rattle.reception_report.proofs.Rows.{row_other, row_here}
use Rattle.reception_report.proofs.report.put_module.Goals as goal

pub returns-then-line-id : goal.returns-then-line-id
returns-then-line-id g c = puts_as (row_other c.args.id c.args.line.now c.if-line-id.true) (puts_nothing tt _)

pub returns-in_err-text : goal.returns-in_err-text
returns-in_err-text g c =
    let p = err_from_is_err_and c.from_residual.result c.from_residual.ensures.1 in
    rw (p.1, p.2) (puts_none _ _)

pub returns : goal.returns
returns g c = puts_as (c.in_ok-text.ensures ∙ row_here c.args.id c.args.line.now c.if-line-id.false) c.put.ensures
