use Rattle.std.proofs.Common.{take}
use Rattle.std.specs.List.{flat_map}
use Rattle.path_resolver.specs.Shots.{held_of}
use Rattle.shell_streams.specs.Sending.{HasPut}
use Rattle.reception_report.specs.Telling.{path_line}
use Rattle.reception_report.proofs.report.put_each.Given as goal

abbrev pub invariant-loop-path : goal.invariant-loop-path
invariant-loop-path g l = HasPut (g.O.Output.state l.fn.out) (g.O.Output.state l.out) (flat_map (path_line (held_of l.shot)) (take l.path-index l.paths))
