use Rattle.cycle_planner.specs.Walks.{IsWalk}
use Rattle.broadcaster_rows.proofs.cycle.walk_text.Given as goal

abbrev pub invariant-loop : goal.invariant-loop
invariant-loop g l = IsWalk l.weigh.weights l.lines l.walk
