use Rattle.std.proofs.Common.{ap, refl, Err}
use Rattle.shell_streams.specs.Carriers.{all_packets}
use Rattle.mount_table.specs.Stands.{mounts_of}
use Rattle.receiver_commands.specs.Open.{asks_paths, reply_by}
use Rattle.receiver_commands.specs.Mounts.{mounted_answer}
use Rattle.receiver_commands.proofs.Replying.{replies_stopped}
use Rattle.receiver_commands.proofs.Serving.{mounts_written}
use Rattle.receiver_commands.proofs.mounts.serve.Goals as goal

pub hear_all_packets-requires : goal.hear_all_packets-requires
hear_all_packets-requires g c = (refl, c.requires.stands)

pub returns-in-Ok-clause-replies : goal.returns-in-Ok-clause-replies
returns-in-Ok-clause-replies g c = rw c.status_of.ensures (mounts_written c.args.table _ c.args.paths.now _ _ _ c.write_answers.result c.in-Ok.ensures.ok c.requires.pending
    c.write_answers.ensures.found c.write_answers.ensures.puts c.write_answers.ensures.empty)

pub returns-clause-replies : goal.returns-clause-replies
returns-clause-replies g c = rw c.from.ensures
    (replies_stopped all_packets (reply_by (mounted_answer (mounts_of c.args.table)) (asks_paths c.args.paths.now)) _ _ c.in-Err.fault c.in-Err.ensures.err (λ e. c.in-Err.ensures.cause (ap Err e)) refl)

pub returns-in-Ok-clause-same : goal.returns-in-Ok-clause-same
returns-in-Ok-clause-same g c =
    let fed = c.in-Ok.ensures.ok in
    (c.write_answers.ensures.puts (mounted_answer (mounts_of c.hear_all_packets.new.listener.mounts) fed.taken) (record { packets = fed.taken; stands = fed.heard.1; is = refl })).same

pub returns-in-Ok-clause-in_time : goal.returns-in-Ok-clause-in_time
returns-in-Ok-clause-in_time g c =
    let fed = c.in-Ok.ensures.ok in
    (c.write_answers.ensures.puts (mounted_answer (mounts_of c.hear_all_packets.new.listener.mounts) fed.taken) (record { packets = fed.taken; stands = fed.heard.1; is = refl })).in_time
