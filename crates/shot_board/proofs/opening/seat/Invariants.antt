use Rattle.std.proofs.Common.{◌≡◌}
use Rattle.shot_board.proofs.opening.seat.Given as goal

abbrev pub invariant-loop : goal.invariant-loop
invariant-loop g l = l.writer ≡ l.initial.writer
