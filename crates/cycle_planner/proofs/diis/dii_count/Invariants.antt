use Rattle.std.proofs.Common.{◌≡◌, ◌+◌, length}
use Rattle.cycle_planner.specs.Cycle.{diis_from, diis_of}
use Rattle.cycle_planner.proofs.diis.dii_count.Given as goal

abbrev pub invariant-loop-group : goal.invariant-loop-group
invariant-loop-group l = l.count + length (diis_from l.lines l.group) ≡ length (diis_of l.lines)
