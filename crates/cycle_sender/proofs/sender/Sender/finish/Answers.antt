use Rattle.std.proofs.Common.{ap}
use Rattle.std.specs.List.{concat}
use Rattle.std.proofs.lemmas.Result.{err_from_is_err_and}
use Rattle.shell_streams.proofs.CallerLemmas.{puts_none, puts_as}
use Rattle.cycle_sender.proofs.Sending.{last_is}
use Rattle.cycle_sender.proofs.sender.Sender.finish.Goals as goal

pub returns-in_err-finish-clause-puts : goal.returns-in_err-finish-clause-puts
returns-in_err-finish-clause-puts g c =
    let p = err_from_is_err_and c.from_residual.result c.from_residual.ensures.1 in
    rw (p.1, p.2) (puts_none _ _)

pub returns-clause-puts : goal.returns-clause-puts
returns-clause-puts g c =
    puts_as (ap concat (last_is c.args.self.now.mux _ _ _ c.deref.ensures.value c.in_ok-finish.ensures.packets c.clear.ensures.items)) c.put_packets.ensures
