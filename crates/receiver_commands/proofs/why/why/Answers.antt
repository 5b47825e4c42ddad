use Rattle.receiver_commands.proofs.Explaining.{says_all, says_part}
use Rattle.receiver_commands.proofs.why.why.Goals as goal

pub returns-in-Ok-clause-says : goal.returns-in-Ok-clause-says
returns-in-Ok-clause-says g c = rw c.status_of.ensures (says_all c.args.complaint _ _ c.requires c.in-Ok.ensures.empty c.in-Ok.ensures.puts)

pub returns-in-Err-clause-says : goal.returns-in-Err-clause-says
returns-in-Err-clause-says g c = rw c.from.ensures (says_part c.args.complaint _ _ c.in-Err.fault c.requires c.in-Err.ensures.puts)
