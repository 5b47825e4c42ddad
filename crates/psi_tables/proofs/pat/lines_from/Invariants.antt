use Rattle.std.proofs.Common.{◌≡◌, ◌++◌, length}
use Rattle.psi_tables.specs.Pats.{lines_in}
use Rattle.psi_tables.proofs.pat.lines_from.Given as goal

abbrev pub invariant-loop-rest : goal.invariant-loop-rest
invariant-loop-rest l = l.lines.items ++ lines_in l.rest ≡ lines_in l.body

abbrev pub decreases-loop-rest : goal.decreases-loop-rest
decreases-loop-rest l = length l.rest
