use Rattle.std.proofs.Common.{take}
use Rattle.std.specs.List.{flat_map}
use Rattle.path_resolver.specs.Resolving.{answer_of}
use Rattle.path_resolver.specs.Shots.{held_of}
use Rattle.shell_streams.specs.Sending.{HasPut}
use Rattle.receiver_commands.specs.Watch.{notice_line}
use Rattle.receiver_commands.proofs.watch.put_notices.Given as goal

abbrev pub invariant-loop-notice : goal.invariant-loop-notice
invariant-loop-notice g l =
    HasPut (g.O.Output.state l.fn.out) (g.O.Output.state l.out) (flat_map (notice_line l.paths l.shot.mark (answer_of (held_of l.shot))) (take l.notice-index l.notices))
