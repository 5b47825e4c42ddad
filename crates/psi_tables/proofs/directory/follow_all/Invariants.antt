use Rattle.std.proofs.Common.{take}
use Rattle.psi_tables.proofs.Following.{Goes}
use Rattle.psi_tables.proofs.directory.follow_all.Given as goal

abbrev pub invariant-loop-line : goal.invariant-loop-line
invariant-loop-line l = Goes l.fn.followed.items l.followed.items (take l.line-index l.lines)
