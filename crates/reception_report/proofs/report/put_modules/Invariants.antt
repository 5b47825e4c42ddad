use Rattle.std.specs.List.{flat_map}
use Rattle.shell_streams.specs.Sending.{HasPut}
use Rattle.reception_report.specs.Telling.{module_line, lines_below, lines_of}
use Rattle.reception_report.proofs.report.put_modules.Given as goal

abbrev pub invariant-loop-id : goal.invariant-loop-id
invariant-loop-id g l = HasPut (g.O.Output.state l.fn.out) (g.O.Output.state l.out) (flat_map module_line (lines_below l.id (lines_of l.held)))
