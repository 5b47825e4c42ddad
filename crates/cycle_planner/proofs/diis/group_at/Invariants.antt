use Rattle.std.proofs.Common.{◌≡◌, drop}
use Rattle.cycle_planner.specs.Cycle.{diis_from, diis_of}
use Rattle.cycle_planner.specs.Places.{IsListed}
use Rattle.cycle_planner.proofs.diis.group_at.Given as goal

abbrev pub invariant-loop-before : goal.invariant-loop-before
invariant-loop-before l = record { listed : IsListed l.lines l.group; diis : diis_from l.lines l.group ≡ drop l._before (diis_of l.lines) }
