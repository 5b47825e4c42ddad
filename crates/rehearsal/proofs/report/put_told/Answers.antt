use Rattle.rehearsal.proofs.Words.{refl, err_from_is_err_and, puts_as, puts_none}
use Rattle.rehearsal.proofs.Running.{line_as}
use Rattle.rehearsal.proofs.report.put_told.Goals as goal

pub returns-in_err-subject : goal.returns-in_err-subject
returns-in_err-subject g c = let p = err_from_is_err_and c.from_residual.result c.from_residual.ensures.1 in rw (p.1, p.2) (puts_none _ _)

pub returns : goal.returns
returns g c = puts_as (line_as _ _ _ _ _ c.in_ok-subject.ensures.words c.in_ok-subject.ensures.path refl) c.put_line.ensures
