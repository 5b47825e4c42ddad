use Rattle.std.proofs.Common.{append-nil}
use Rattle.shell_streams.proofs.CallerLemmas.{puts_as, puts_then}
use Rattle.carousel_shell.proofs.big.put_all.Goals as goal

pub returns-clause-puts : goal.returns-clause-puts
returns-clause-puts g c = puts_as (append-nil c.args.bytes.now) (puts_then c.in_ok-put.ensures.puts c.flush.ensures.puts)
