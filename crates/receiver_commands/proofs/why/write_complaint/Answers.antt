use Rattle.std.proofs.Common.{◌∙◌, append-nil}
use Rattle.std.proofs.lemmas.Result.{err_from_is_err_and}
use Rattle.shell_streams.proofs.CallerLemmas.{puts_none, puts_then, puts_as, puts_err}
use Rattle.receiver_commands.proofs.why.write_complaint.Goals as goal

pub returns-in_err-line-clause-puts : goal.returns-in_err-line-clause-puts
returns-in_err-line-clause-puts g c =
    let p = err_from_is_err_and c.from_residual.result c.from_residual.ensures.1 in
    rw (p.1, p.2) (puts_none _ _)

pub returns-in_err-put-clause-puts : goal.returns-in_err-put-clause-puts
returns-in_err-put-clause-puts g c =
    let p = err_from_is_err_and c.from_residual-in_err-put.result c.from_residual-in_err-put.ensures.1 in
    rw (p.1, p.2) (puts_err (puts_as (c.as_bytes.ensures.value ∙ c.in_ok-line.ensures) c.in_err-put.ensures.puts))

pub returns-clause-puts : goal.returns-clause-puts
returns-clause-puts g c = puts_as (append-nil _) (puts_then (puts_as (c.as_bytes.ensures.value ∙ c.in_ok-line.ensures) c.in_ok-put.ensures.puts) c.flush.ensures.puts)
