use Rattle.std.proofs.lemmas.Result.{err_from_is_err_and}
use Rattle.shell_streams.proofs.CallerLemmas.{puts_none}
use Rattle.receiver_commands.proofs.answers.put_name.Goals as goal

pub returns-in_err-text : goal.returns-in_err-text
returns-in_err-text g c =
    let p = err_from_is_err_and c.from_residual.result c.from_residual.ensures.1 in
    rw (p.1, p.2) (puts_none _ _)

pub returns : goal.returns
returns g c = rw (c.as_bytes.ensures.value, c.in_ok-text.ensures) at c.put_bytes_line.ensures
