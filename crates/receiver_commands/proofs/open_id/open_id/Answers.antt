use Rattle.std.proofs.Common.{ap, refl, Err}
use Rattle.std.proofs.lemmas.Result.{IfOk-weaker}
use Rattle.path_resolver.specs.Resolving.{answer_of}
use Rattle.path_resolver.specs.Shots.{held_of}
use Rattle.tuner_core.specs.LookBack.{answer_after}
use Rattle.receiver_commands.specs.Open.{asks_paths, reply_by}
use Rattle.receiver_commands.specs.OpenId.{sections_by_id}
use Rattle.receiver_commands.proofs.Replying.{replies_stopped}
use Rattle.receiver_commands.proofs.Answering.{answers_replied}
use Rattle.receiver_commands.proofs.open_id.open_id.Goals as goal

pub returns-in-Ok-clause-opens : goal.returns-in-Ok-clause-opens
returns-in-Ok-clause-opens g c = rw c.status_of.ensures
    (answers_replied (sections_by_id c.args.carousel) (asks_paths c.args.paths.now) _ _ _ (held_of c.deref.result.now) c.write_answers.result (rw c.deref.ensures c.in-Ok.ensures.ok) c.requires
    (IfOk-weaker c.write_answers.result _ _ (λ all e. e (answer_of (held_of c.deref.result.now)) refl) c.write_answers.ensures.found)
    (c.write_answers.ensures.puts (answer_of (held_of c.deref.result.now)) refl) c.write_answers.ensures.empty)

pub returns-in-Err-clause-opens : goal.returns-in-Err-clause-opens
returns-in-Err-clause-opens g c = rw c.from.ensures
    (replies_stopped (sections_by_id c.args.carousel) (reply_by answer_after (asks_paths c.args.paths.now)) _ _ c.in-Err.fault c.in-Err.ensures.err (λ e. c.in-Err.ensures.cause (ap Err e)) refl)

pub returns-in-Ok-clause-same : goal.returns-in-Ok-clause-same
returns-in-Ok-clause-same g c = (c.write_answers.ensures.puts (answer_of (held_of c.deref.result.now)) refl).same

pub returns-in-Ok-clause-in_time : goal.returns-in-Ok-clause-in_time
returns-in-Ok-clause-in_time g c = (c.write_answers.ensures.puts (answer_of (held_of c.deref.result.now)) refl).in_time
