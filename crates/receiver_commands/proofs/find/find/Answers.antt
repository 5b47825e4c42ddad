use Rattle.std.proofs.Common.{ap, refl, Err}
use Rattle.shell_streams.specs.Carriers.{all_packets}
use Rattle.receiver_commands.specs.Find.{place_of}
use Rattle.receiver_commands.proofs.Replying.{replies_stopped}
use Rattle.receiver_commands.proofs.Finding.{finds_written}
use Rattle.receiver_commands.proofs.find.find.Goals as goal

pub returns-in-Ok-clause-finds : goal.returns-in-Ok-clause-finds
returns-in-Ok-clause-finds g c = rw c.status_of.ensures (finds_written c.args.carousel _ _ _ c.in-Ok.found c.write_found.result c.in-Ok.ensures.ok c.requires
    c.write_found.ensures.found c.write_found.ensures.puts c.write_found.ensures.empty)

pub returns-in-Err-clause-finds : goal.returns-in-Err-clause-finds
returns-in-Err-clause-finds g c = rw c.from.ensures
    (replies_stopped all_packets (place_of c.args.carousel) _ _ c.in-Err.fault c.in-Err.ensures.err (λ e. c.in-Err.ensures.cause (ap Err e)) refl)
