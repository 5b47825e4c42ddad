use Rattle.std.proofs.Common.{take}
use Rattle.std.specs.List.{flat_map}
use Rattle.shell_streams.specs.Sending.{HasPut}
use Rattle.reception_report.specs.Inner.Telling.{modules_of}
use Rattle.reception_report.proofs.report.put_modules_of.Given as goal

abbrev pub invariant-loop-tuned : goal.invariant-loop-tuned
invariant-loop-tuned g l = HasPut (g.O.Output.state l.fn.out) (g.O.Output.state l.out) (flat_map (modules_of l.id) (take l.tuned-index l.held))
