use Rattle.shell_streams.proofs.Hearing.{hears_as, hears_fails}
use Rattle.shell_streams.proofs.every_packet.hear_all_packets.Goals as goal

pub returns-in-Ok : goal.returns-in-Ok
returns-in-Ok g c = hears_as tt c.in-Ok.ensures.hears

pub returns-in-Err : goal.returns-in-Err
returns-in-Err g c = hears_fails c.in-Err.ensures.hears
