use Rattle.std.proofs.Common.{◌≡◌, ◌+◌, take, length}
use Rattle.std.specs.List.{sum_by}
use Rattle.cycle_planner.specs.Cycle.{diis_of}
use Rattle.cycle_planner.specs.Rounds.{blocks_in_round}
use Rattle.cycle_planner.proofs.round_len.Given as goal

abbrev pub invariant-loop-line : goal.invariant-loop-line
invariant-loop-line g l = l.items ≡ length (diis_of l.lines) + sum_by (λ line. length (blocks_in_round l.weigh.weights l.number line)) (take l.line-index l.lines)
