use Rattle.std.proofs.Common.{◌≡◌, drop}
use Rattle.path_tree.specs.Paths.{path_cmp}
use Rattle.path_tree.proofs.path.compare_names.Given as goal

abbrev pub invariant-loop-i : goal.invariant-loop-i
invariant-loop-i l = path_cmp l.own l.others ≡ path_cmp (drop l.i l.own) (drop l.i l.others)
