use Rattle.std.proofs.Common.{◌≡◌, ◌+◌, take}
use Rattle.std.specs.List.{sum_by}
use Rattle.module_cache.proofs.beside.left_by_held.Given as goal
use Rattle.dsi_dii.specs.declared.TheConstants.{MOST_TOTAL_SIZE}

abbrev pub invariant-loop-tuned : goal.invariant-loop-tuned
invariant-loop-tuned l = l.left + sum_by (λ t. sum_by (λ x. x.line.size) t.lines) (take l.tuned-index l.held) ≡ MOST_TOTAL_SIZE
