use Rattle.std.proofs.Common.{ap, refl, Err}
use Rattle.receiver_commands.proofs.Reporting.{inspects_stopped, inspects_written}
use Rattle.receiver_commands.proofs.inspect.inspect.Goals as goal

pub returns-in-Ok-clause-inspects : goal.returns-in-Ok-clause-inspects
returns-in-Ok-clause-inspects g c =
    let all = c.in-Ok.ensures.hears.ok in
    rw c.status_of.ensures (inspects_written c.args.pid all.taken c.in-Ok.reception.counts.short_tail _ _ _ (record { reads = all.told; tail_is = c.in-Ok.ensures.tail }) c.requires
    c.in-Ok.reception.sync c.write_report.result all.heard.sync_is (c.write_report.ensures.puts c.args.pid all.taken all.heard) c.write_report.ensures.empty)

pub returns-in-Err-clause-inspects : goal.returns-in-Err-clause-inspects
returns-in-Err-clause-inspects g c = rw c.from.ensures (inspects_stopped c.args.pid _ _ c.in-Err.fault c.in-Err.ensures.hears.err (λ e. c.in-Err.ensures.hears.cause (ap Err e)) refl)

pub returns-in-Ok-clause-same : goal.returns-in-Ok-clause-same
returns-in-Ok-clause-same g c =
    let all = c.in-Ok.ensures.hears.ok in
    (c.write_report.ensures.puts c.args.pid all.taken all.heard).same

pub returns-in-Ok-clause-in_time : goal.returns-in-Ok-clause-in_time
returns-in-Ok-clause-in_time g c =
    let all = c.in-Ok.ensures.hears.ok in
    (c.write_report.ensures.puts c.args.pid all.taken all.heard).in_time
