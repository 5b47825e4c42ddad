use Rattle.std.proofs.Common.{◌≡◌, take}
use Rattle.cycle_planner.specs.Cycle.{greatest_weight}
use Rattle.cycle_planner.proofs.walk.rounds_of.Given as goal

abbrev pub invariant-loop-line : goal.invariant-loop-line
invariant-loop-line g l = l.rounds ≡ greatest_weight l.weigh.weights (take l.line-index l.lines)
