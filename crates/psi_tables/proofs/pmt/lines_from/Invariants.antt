use Rattle.std.proofs.Common.{length}
use Rattle.psi_tables.proofs.Runs.{Listed}
use Rattle.psi_tables.proofs.pmt.lines_from.Given as goal

abbrev pub invariant-loop-stream : goal.invariant-loop-stream
invariant-loop-stream l = Listed l.lines.items l.rest l.bytes

abbrev pub decreases-loop-stream : goal.decreases-loop-stream
decreases-loop-stream l = length l.rest
