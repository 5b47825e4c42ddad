use Rattle.std.proofs.Common.{ap, refl, Err}
use Rattle.path_resolver.specs.Shots.{held_of}
use Rattle.shell_streams.specs.Carriers.{sections_by}
use Rattle.tuner_core.specs.LookBack.{answer_after}
use Rattle.receiver_commands.specs.Open.{asks_all, reply_by}
use Rattle.receiver_commands.proofs.Replying.{replies_stopped}
use Rattle.receiver_commands.proofs.Answering.{answers_replied}
use Rattle.receiver_commands.proofs.open.list.Goals as goal

pub returns-in-Ok-clause-answers : goal.returns-in-Ok-clause-answers
returns-in-Ok-clause-answers g c = rw c.status_of.ensures (answers_replied (sections_by c.args.carrier) asks_all _ _ _ (held_of c.deref.result.now) c.write_list.result (rw c.deref.ensures c.in-Ok.ensures.ok) c.requires
    c.write_list.ensures.listed c.write_list.ensures.puts c.write_list.ensures.empty)

pub returns-in-Err-clause-answers : goal.returns-in-Err-clause-answers
returns-in-Err-clause-answers g c = rw c.from.ensures (replies_stopped (sections_by c.args.carrier) (reply_by answer_after asks_all) _ _ c.in-Err.fault c.in-Err.ensures.err (λ e. c.in-Err.ensures.cause (ap Err e)) refl)
