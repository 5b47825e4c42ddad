use Rattle.std.proofs.Common.{◌≡◌, ◌+◌, drop}
use Rattle.path_tree.specs.Inner.Places.{count_below}
use Rattle.path_tree.proofs.entries.count_below.Given as goal

abbrev pub invariant-loop-i : goal.invariant-loop-i
invariant-loop-i l = count_below l.entries l.path ≡ l.i + count_below (drop l.i l.entries) l.path
