use Rattle.rehearsal.proofs.Words.{take, flat_map, HasPut}
use Rattle.rehearsal.proofs.Telling.{told_line}
use Rattle.rehearsal.proofs.report.put_report.Given as goal

abbrev pub invariant-loop-one : goal.invariant-loop-one
invariant-loop-one g l = HasPut (g.O.Output.state l.fn.out) (g.O.Output.state l.out) (flat_map told_line (take l.one-index l.told))
