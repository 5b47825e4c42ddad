use Rattle.std.proofs.Common.{ap, refl, Err}
use Rattle.path_resolver.specs.Resolving.{answer_of}
use Rattle.path_resolver.specs.Shots.{held_of}
use Rattle.receiver_commands.proofs.Unpacking.{extracts_stopped, extracts_written, ends_same, ends_in_time}
use Rattle.receiver_commands.proofs.extract.extract.Goals as goal

pub returns-in-Ok-clause-extracts : goal.returns-in-Ok-clause-extracts
returns-in-Ok-clause-extracts g c = rw c.status_of.ensures (extracts_written c.args.pid c.args.folder.now _ _ _ _ (held_of c.deref.result.now) c.extract.result (rw c.deref.ensures c.in-Ok.ensures.ok) c.requires
    c.extract.ensures.part c.extract.ensures.ends c.extract.ensures.empty)

pub returns-in-Err-clause-extracts : goal.returns-in-Err-clause-extracts
returns-in-Err-clause-extracts g c = rw c.from.ensures (extracts_stopped c.args.pid c.args.folder.now _ _ _ c.in-Err.fault c.in-Err.ensures.err (λ e. c.in-Err.ensures.cause (ap Err e)) (refl, refl))

pub returns-in-Ok-clause-same : goal.returns-in-Ok-clause-same
returns-in-Ok-clause-same g c = ends_same c.args.folder.now (answer_of (held_of c.deref.result.now)) c.extract.result _ _ _ _ _ c.extract.ensures.ends

pub returns-in-Ok-clause-in_time : goal.returns-in-Ok-clause-in_time
returns-in-Ok-clause-in_time g c = ends_in_time c.args.folder.now (answer_of (held_of c.deref.result.now)) c.extract.result _ _ _ _ _ c.extract.ensures.ends
