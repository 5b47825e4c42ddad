use Rattle.std.proofs.Common.{ap, ◌∙◌, append-nil}
use Rattle.std.proofs.lemmas.Result.{err_from_is_err_and}
use Rattle.shell_streams.proofs.CallerLemmas.{puts_none, puts_then, puts_stop, puts_as}
use Rattle.reception_report.specs.Telling.{counts_line}
use Rattle.reception_report.proofs.report.write_report.Goals as goal

pub returns-in_err-line-clause-puts : goal.returns-in_err-line-clause-puts
returns-in_err-line-clause-puts g c =
    let p = err_from_is_err_and c.from_residual.result c.from_residual.ensures.1 in
    rw (p.1, p.2) (λ pid packets r. puts_none _ _)

pub returns-in_err-put-clause-puts : goal.returns-in_err-put-clause-puts
returns-in_err-put-clause-puts g c =
    let p = err_from_is_err_and c.from_residual-in_err-put.result c.from_residual-in_err-put.ensures.1 in
    rw (p.1, p.2) (λ pid packets r. puts_stop _ (puts_as (c.in_ok-line.ensures ∙ ap counts_line r.counts_are) c.in_err-put.ensures))

pub returns-in_err-put_sections-clause-puts : goal.returns-in_err-put_sections-clause-puts
returns-in_err-put_sections-clause-puts g c =
    let p = err_from_is_err_and c.from_residual-in_err-put_sections.result c.from_residual-in_err-put_sections.ensures.1 in
    rw (p.1, p.2) (λ pid packets r. puts_then (puts_as (c.in_ok-line.ensures ∙ ap counts_line r.counts_are) c.in_ok-put.ensures) (c.in_err-put_sections.ensures _ r.follows))

pub returns-clause-puts : goal.returns-clause-puts
returns-clause-puts g c = λ pid packets r.
    puts_as (append-nil _)
    (puts_then (puts_then (puts_as (c.in_ok-line.ensures ∙ ap counts_line r.counts_are) c.in_ok-put.ensures) (c.in_ok-put_sections.ensures _ r.follows)) c.flush.ensures.puts)
