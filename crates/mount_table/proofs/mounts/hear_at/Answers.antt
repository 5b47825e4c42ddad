use Rattle.std.proofs.Common.{subst}
use Rattle.std.proofs.Math.Seq.{map-set_same}
use Rattle.std.proofs.lemmas.Result.{on_ok_weaker}
use Rattle.mount_table.proofs.Hearing.{mount_in, IsAt, at_place, is_within, on_its_pid, heard_at, heard_nowhere, completes_at}
use Rattle.mount_table.proofs.mounts.hear_at.Goals as goal

pub bounds-receivers-from : goal.bounds-receivers-from
bounds-receivers-from c =
    let place = at_place c.args.packet.now c.args.receivers.now c.args.place c.from.result c.in-Some.place c.requires c.in-Some.is c.from.ensures in
    is_within c.args.packet.now c.args.receivers.now c.from.result place

pub hear-requires : goal.hear-requires
hear-requires c =
    let place = at_place c.args.packet.now c.args.receivers.now c.args.place c.from.result c.in-Some.place c.requires c.in-Some.is c.from.ensures in
    on_its_pid c.args.packet.now c.args.receivers.now c.from.result c.index-receivers-from.result place

pub returns-in-Some-clause-receives : goal.returns-in-Some-clause-receives
returns-in-Some-clause-receives c =
    let place = at_place c.args.packet.now c.args.receivers.now c.args.place c.from.result c.in-Some.place c.requires c.in-Some.is c.from.ensures in
    on_ok_weaker c.hear.result (heard_at c.args.packet.now c.args.receivers.now c.from.result c.index-receivers-from.result c.hear.new.self place) c.hear.ensures.receives

pub returns-in-Some-clause-mounts : goal.returns-in-Some-clause-mounts
returns-in-Some-clause-mounts c = map-set_same mount_in c.args.receivers.now c.from.result c.hear.new.self c.index-receivers-from.result c.hear.ensures.mount

pub returns-in-Some-clause-memory : goal.returns-in-Some-clause-memory
returns-in-Some-clause-memory c = λ e.
    let place = at_place c.args.packet.now c.args.receivers.now c.args.place c.from.result c.in-Some.place c.requires c.in-Some.is c.from.ensures in
    completes_at c.args.packet.now c.args.receivers.now c.from.result c.index-receivers-from.result (is_within c.args.packet.now c.args.receivers.now c.from.result place)
    (c.hear.ensures.memory e)

pub returns-in-None-clause-receives : goal.returns-in-None-clause-receives
returns-in-None-clause-receives c = heard_nowhere c.args.packet.now c.args.receivers.now (subst (IsAt c.args.packet.now c.args.receivers.now) c.in-None.is c.requires)
