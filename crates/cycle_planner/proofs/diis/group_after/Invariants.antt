use Rattle.std.proofs.Common.{◌≡◌, ◌+◌}
use Rattle.cycle_planner.specs.Cycle.{diis_from}
use Rattle.cycle_planner.proofs.diis.group_after.Given as goal

-- there is no DII of the groups passed over
abbrev pub invariant-loop-next : goal.invariant-loop-next
invariant-loop-next l = diis_from l.lines l.next ≡ diis_from l.lines (l.group + 1)
