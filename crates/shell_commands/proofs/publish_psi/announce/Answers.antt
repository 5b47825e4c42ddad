use Rattle.std.proofs.Common.{ap, ◌∙◌}
use Rattle.std.specs.List.{concat}
use Rattle.std.proofs.lemmas.Result.{err_from_is_err_and}
use Rattle.shell_streams.proofs.CallerLemmas.{puts_none, puts_as}
use Rattle.shell_commands.proofs.Announcing.{room_is}
use Rattle.shell_commands.proofs.publish_psi.announce.Goals as goal

pub returns-in_err-packets-clause-puts : goal.returns-in_err-packets-clause-puts
returns-in_err-packets-clause-puts g c =
    let p = err_from_is_err_and c.from_residual.result c.from_residual.ensures.1 in
    rw (p.1, p.2) (puts_none _ _)

pub returns-clause-puts : goal.returns-clause-puts
returns-clause-puts g c =
    puts_as (ap concat (c.deref.ensures.value ∙ room_is _ _ _ c.in_ok-packets.ensures.packets c.clear.ensures.items)) c.put_packets.ensures
