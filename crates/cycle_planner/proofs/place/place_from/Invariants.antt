use Rattle.std.proofs.Common.{◌≡◌}
use Rattle.cycle_planner.specs.Places.{lines_from}
use Rattle.cycle_planner.proofs.place.place_from.Given as goal

-- the round sends nothing of the lines passed over
abbrev pub invariant-loop-line : goal.invariant-loop-line
invariant-loop-line g l = lines_from l.weigh.weights l.lines l.round l.line ≡ lines_from l.weigh.weights l.lines l.round l.from
