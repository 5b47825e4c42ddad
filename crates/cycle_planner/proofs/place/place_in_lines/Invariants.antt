use Rattle.cycle_planner.proofs.Placing.{IsAhead}
use Rattle.cycle_planner.proofs.place.place_in_lines.Given as goal

abbrev pub invariant-loop-line : goal.invariant-loop-line
invariant-loop-line g l = IsAhead l.weigh.weights l.round l.lines l.at l.line l.left
