use Rattle.std.proofs.Common.{take}
use Rattle.std.specs.List.{flat_map}
use Rattle.shell_streams.specs.Sending.{HasPut}
use Rattle.reception_report.specs.Inner.Telling.{module_if}
use Rattle.reception_report.proofs.report.put_lines.Given as goal

abbrev pub invariant-loop-line : goal.invariant-loop-line
invariant-loop-line g l = HasPut (g.O.Output.state l.fn.out) (g.O.Output.state l.out) (flat_map (module_if l.id) (take l.line-index l.lines))
