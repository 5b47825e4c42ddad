use Rattle.std.proofs.Common.{ap, ◌∙◌}
use Rattle.std.proofs.lemmas.Result.{err_from_is_err_and}
use Rattle.path_resolver.specs.Shots as shots
use Rattle.tuner_core.specs.Stands.{held_diis}
use Rattle.shell_streams.proofs.CallerLemmas.{puts_none, puts_then, puts_stop, puts_as}
use Rattle.reception_report.specs.Report.{held_text}
use Rattle.reception_report.proofs.report.put_shot.Goals as goal

pub returns-in_err-line : goal.returns-in_err-line
returns-in_err-line g c =
    let p = err_from_is_err_and c.from_residual.result c.from_residual.ensures.1 in
    rw (p.1, p.2) (λ sections f s. puts_none _ _)

pub returns-in_err-put : goal.returns-in_err-put
returns-in_err-put g c =
    let p = err_from_is_err_and c.from_residual-in_err-put.result c.from_residual-in_err-put.ensures.1 in
    rw (p.1, p.2) (λ sections f s. puts_stop _ (puts_as (c.in_ok-line.ensures sections (ap (λ v. v.mark) s) f.counts_are) c.in_err-put.ensures))

pub returns : goal.returns
returns g c = λ sections f s.
    puts_then (puts_as (c.in_ok-line.ensures sections (ap (λ v. v.mark) s) f.counts_are) c.in_ok-put.ensures)
    (puts_as (ap (λ ts. held_text ts (shots.view c.args.shot.now)) (c.held.ensures.looks_back sections f.tuner_stands) ∙ ap (held_text (held_diis sections)) s) c.put_held.ensures)
