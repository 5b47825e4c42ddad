use Rattle.std.proofs.Common.{◌∙◌, map, refl, rules}
use Rattle.std.specs.String.{string_bytes}
use Rattle.shell_words.specs.Words as commands
use Rattle.shell_commands.proofs.CallerLemmas.{in_time_over}
use Rattle.carousel_shell.proofs.Choosing.{fault_declines, promises_over}
use Rattle.carousel_shell.proofs.top.run_session.Goals as goal

pub returns-in-Err-clause-keeps : goal.returns-in-Err-clause-keeps
returns-in-Err-clause-keeps g c =
    rw c.from.ensures (fault_declines c.args.weigh.weights (commands.command_of (map string_bytes c.args.words.now)) c.in-Err.fault _ _ c.in-Err.ensures.gives refl refl)

pub returns-clause-keeps : goal.returns-clause-keeps
returns-clause-keeps g c =
    let name = c.play_command.ensures.same ∙ c.new-out.ensures.same in
    rw c.in-Ok.ensures.gives (promises_over c.args.weigh.weights (commands.view c.in-Ok.begun.0) c.play_command.result _ g.K.Sink.written g.K.Sink.faults _ c.play_command.new.out.sink.now _ _
    c.new-out.ensures.now (search (rules, name)) c.play_command.ensures.promises)

pub returns-clause-in_time : goal.returns-clause-in_time
returns-clause-in_time g c =
    let name = c.play_command.ensures.same ∙ c.new-out.ensures.same in
    in_time_over g.K.Sink.failed g.K.Sink.late _ c.play_command.new.out.sink.now _ _ c.new-out.ensures.now (search (rules, name)) c.play_command.ensures.in_time
