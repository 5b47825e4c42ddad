use Rattle.std.proofs.Common.{◌≡◌, ◌+◌, drop, length}
use Rattle.publication_plan.specs.Telling.{left_first}
use Rattle.publication_plan.proofs.Between.{views}
use Rattle.publication_plan.proofs.lines.count_first.Given as goal

abbrev pub invariant-loop-index : goal.invariant-loop-index
invariant-loop-index l = length (left_first l.path (views l.left)) ≡ l.index + length (left_first l.path (views (drop l.index l.left)))
