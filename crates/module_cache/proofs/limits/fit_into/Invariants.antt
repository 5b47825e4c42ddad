use Rattle.std.proofs.Common.{◌≡◌, ◌+◌, take}
use Rattle.std.specs.List.{sum_by}
use Rattle.module_cache.proofs.limits.fit_into.Given as goal

abbrev pub invariant-loop-line : goal.invariant-loop-line
invariant-loop-line l = l.left + sum_by (λ x. x.size) (take l.line-index l.lines) ≡ l.most
