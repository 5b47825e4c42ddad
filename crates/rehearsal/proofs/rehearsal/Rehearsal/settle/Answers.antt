use Rattle.rehearsal.proofs.Words.{◌∷◌, ◌++◌, ap, err_from_is_err_and, settle_lines, During}
use Rattle.rehearsal.proofs.Running.{has_run_as, runs_settling, drawing}
use Rattle.rehearsal.proofs.rehearsal.Rehearsal.settle.Goals as goal

pub returns-in_err-run-in-Some : goal.returns-in_err-run-in-Some
returns-in_err-run-in-Some g c = let p = err_from_is_err_and c.from_residual.result c.from_residual.ensures.1 in λ ws script left first h.
    rw (p.1, p.2) (c.in_err-run-in-Some.ensures 0 During ws script (drawing c.new-last.result.items ∷ left) first
    (runs_settling _ c.new-first.ensures.items c.new-last.ensures.items (has_run_as (ap (λ line. settle_lines line ++ left) c.in-Some.is) h)))

pub returns-in_ok-run-in-Some : goal.returns-in_ok-run-in-Some
returns-in_ok-run-in-Some g c = λ ws script left first h. c.run-in-Some.ensures 0 During ws script left first
    (c.in_ok-run-in-Some.ensures 0 During ws script (drawing c.new-last.result.items ∷ left) first
    (runs_settling _ c.new-first.ensures.items c.new-last.ensures.items (has_run_as (ap (λ line. settle_lines line ++ left) c.in-Some.is) h)))

pub returns-in-None : goal.returns-in-None
returns-in-None g c = λ ws script left first h. has_run_as (ap (λ line. settle_lines line ++ left) c.in-None.is) h
