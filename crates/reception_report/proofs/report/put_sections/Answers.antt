use Rattle.std.proofs.Common.{ap, ◌∙◌}
use Rattle.std.proofs.lemmas.Result.{err_from_is_err_and}
use Rattle.path_resolver.specs.Shots as shots
use Rattle.shell_streams.proofs.CallerLemmas.{puts_none}
use Rattle.reception_report.proofs.report.put_sections.Goals as goal

pub returns-in_err-shot : goal.returns-in_err-shot
returns-in_err-shot g c =
    let p = err_from_is_err_and c.from_residual.result c.from_residual.ensures.1 in
    rw (p.1, p.2) (λ sections f. puts_none _ _)

pub returns : goal.returns
returns g c = λ sections f. c.put_shot.ensures sections f (ap shots.view c.deref.ensures ∙ c.in_ok-shot.ensures.held sections f.tuner_stands)
