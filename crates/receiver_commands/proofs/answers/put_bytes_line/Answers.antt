use Rattle.std.proofs.Common.{◌∷◌, []}
use Rattle.std.proofs.lemmas.Result.{err_from_is_err_and}
use Rattle.shell_streams.proofs.CallerLemmas.{puts_then, puts_stop}
use Rattle.receiver_commands.proofs.answers.put_bytes_line.Goals as goal

pub returns-in_err-put : goal.returns-in_err-put
returns-in_err-put g c =
    let p = err_from_is_err_and c.from_residual.result c.from_residual.ensures.1 in
    rw (p.1, p.2) (puts_stop (10 ∷ []) c.in_err-put.ensures.puts)

pub returns : goal.returns
returns g c = puts_then c.in_ok-put.ensures.puts c.put-2.ensures.puts
