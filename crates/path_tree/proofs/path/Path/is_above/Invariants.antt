use Rattle.std.proofs.Common.{◌≡◌, drop}
use Rattle.path_tree.specs.Paths.{is_below}
use Rattle.path_tree.proofs.path.Path.is_above.Given as goal

abbrev pub invariant-loop-i : goal.invariant-loop-i
invariant-loop-i l = is_below l.own l.others ≡ is_below (drop l.i l.own) (drop l.i l.others)
