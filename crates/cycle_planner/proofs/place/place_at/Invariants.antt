use Rattle.std.proofs.Common.{◌≡◌, drop}
use Rattle.cycle_planner.specs.Cycle.{cycle_of}
use Rattle.cycle_planner.specs.Places.{rounds_from}
use Rattle.cycle_planner.proofs.place.place_at.Given as goal

abbrev pub invariant-loop-round : goal.invariant-loop-round
invariant-loop-round g l = drop l.left (rounds_from l.weigh.weights l.lines l.round) ≡ drop l.at (cycle_of l.weigh.weights l.lines)
