use Rattle.std.proofs.Common.{refl}
use Rattle.receiver_commands.proofs.Serving.{serves_table, serves_none}
use Rattle.receiver_commands.proofs.mounts.mounts.Goals as goal

pub returns-in-Ok-clause-serves : goal.returns-in-Ok-clause-serves
returns-in-Ok-clause-serves g c = serves_table c.args.entries.items c.args.paths.now _ _ _ _ c.in-Ok.ensures.accepted c.in-Ok.ensures.table c.serve.ensures.replies

pub returns-in-Err-clause-serves : goal.returns-in-Err-clause-serves
returns-in-Err-clause-serves g c = rw c.from.ensures (serves_none c.args.entries.items c.args.paths.now _ _ c.in-Err.fault c.in-Err.ensures.refused refl refl)
