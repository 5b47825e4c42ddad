use Rattle.std.proofs.Common.{rules, refl, map, ◌∙◌}
use Rattle.std.specs.String.{string_bytes}
use Rattle.shell_words.specs.Words as commands
use Rattle.watch_desk.specs.Prefixes.{prefixes_of}
use Rattle.receiver_commands.specs.Over.{over}
use Rattle.shell_commands.proofs.Declining.{done_nothing, fault_keeps, promises_over, in_time_over}
use Rattle.shell_commands.proofs.plain.run_plain.Goals as goal

pub returns-in-Err-clause-keeps : goal.returns-in-Err-clause-keeps
returns-in-Err-clause-keeps g c =
    rw c.from.ensures (fault_keeps c.args.weigh.weights (prefixes_of c.args.filters.items) (commands.command_of (map string_bytes c.args.words.now)) c.in-Err.fault
    (over g.S.Source.left g.S.Source.faults c.args.source.now c.args.source.now) (over g.K.Sink.written g.K.Sink.faults c.args.sink.now c.args.sink.now)
    (over g.F.Folders.tree g.F.Folders.faults c.args.folders.now c.args.folders.now) (over g.T.Store.tree g.T.Store.faults c.args.store.now c.args.store.now)
    (g.F.Folders.refused c.args.folders.now) (g.N.Notices.told c.args.notices.now c.args.notices.now) c.in-Err.ensures.gives refl refl refl
    (done_nothing g.F.Folders.tree g.F.Folders.faults c.args.folders.now (g.N.Notices.told c.args.notices.now c.args.notices.now) c.requires.untold))

pub returns-clause-keeps : goal.returns-clause-keeps
returns-clause-keeps g c =
    let name = c.run_command.ensures.same ∙ c.new-out.ensures.same in
    rw c.in-Ok.ensures.gives (promises_over c.args.weigh.weights (prefixes_of c.args.filters.items) (commands.view c.in-Ok.begun.0) c.run_command.result _ _ _ _ _ g.K.Sink.written g.K.Sink.faults _ c.run_command.new.out.sink.now _ _
    c.new-out.ensures.now (search (rules, name)) c.run_command.ensures.promises)

pub returns-clause-in_time : goal.returns-clause-in_time
returns-clause-in_time g c =
    let name = c.run_command.ensures.same ∙ c.new-out.ensures.same in
    in_time_over g.K.Sink.failed g.K.Sink.late _ c.run_command.new.out.sink.now _ _ c.new-out.ensures.now (search (rules, name)) c.run_command.ensures.in_time

pub returns-clause-stored : goal.returns-clause-stored
returns-clause-stored g c = rw c.in-Ok.ensures.gives c.run_command.ensures.stored

pub returns-clause-quiet : goal.returns-clause-quiet
returns-clause-quiet g c = rw c.in-Ok.ensures.gives c.run_command.ensures.quiet
