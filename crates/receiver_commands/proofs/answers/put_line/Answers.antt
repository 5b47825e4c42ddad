use Rattle.std.proofs.lemmas.Result.{err_from_is_err_and}
use Rattle.shell_streams.proofs.CallerLemmas.{puts_none}
use Rattle.receiver_commands.proofs.answers.put_line.Goals as goal

pub returns-in_err-line : goal.returns-in_err-line
returns-in_err-line g c =
    let p = err_from_is_err_and c.from_residual.result c.from_residual.ensures.1 in
    rw (p.1, p.2) (puts_none _ _)

pub returns : goal.returns
returns g c = rw (c.as_bytes.ensures.value, c.in_ok-line.ensures) at c.put.ensures.puts
