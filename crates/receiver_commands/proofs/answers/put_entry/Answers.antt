use Rattle.std.proofs.lemmas.Result.{err_from_is_err_and}
use Rattle.shell_streams.proofs.CallerLemmas.{puts_then, puts_stop, puts_ok, puts_err}
use Rattle.receiver_commands.proofs.answers.put_entry.Goals as goal

pub returns-in_err-put_line-clause-puts : goal.returns-in_err-put_line-clause-puts
returns-in_err-put_line-clause-puts g c =
    let p = err_from_is_err_and c.from_residual.result c.from_residual.ensures.1 in
    rw (p.1, p.2) (puts_stop _ c.in_err-put_line.ensures)

pub returns-in_err-put_tail-clause-puts : goal.returns-in_err-put_tail-clause-puts
returns-in_err-put_tail-clause-puts g c =
    let p = err_from_is_err_and c.from_residual-in_err-put_tail.result c.from_residual-in_err-put_tail.ensures.1 in
    rw (p.1, p.2) (puts_err (puts_then c.in_ok-put_line.ensures c.in_err-put_tail.ensures))

pub returns-clause-puts : goal.returns-clause-puts
returns-clause-puts g c = puts_ok _ (puts_then c.in_ok-put_line.ensures c.in_ok-put_tail.ensures)
