use Rattle.std.proofs.lemmas.Result.{err_from_is_err_and}
use Rattle.shell_streams.proofs.CallerLemmas.{puts_none, puts_ok, puts_err}
use Rattle.receiver_commands.proofs.listing.put_path.Goals as goal

pub returns-in_err-answer-clause-puts : goal.returns-in_err-answer-clause-puts
returns-in_err-answer-clause-puts g c =
    let p = err_from_is_err_and c.from_residual.result c.from_residual.ensures.1 in
    rw (p.1, p.2) (puts_none _ _)

pub returns-in_err-put_line-clause-puts : goal.returns-in_err-put_line-clause-puts
returns-in_err-put_line-clause-puts g c =
    let p = err_from_is_err_and c.from_residual-in_err-put_line.result c.from_residual-in_err-put_line.ensures.1 in
    rw (p.1, p.2) (puts_err (rw c.in_ok-answer.ensures.answer at c.in_err-put_line.ensures))

pub returns-clause-puts : goal.returns-clause-puts
returns-clause-puts g c = puts_ok _ (rw c.in_ok-answer.ensures.answer at c.in_ok-put_line.ensures)
