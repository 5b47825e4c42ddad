use Rattle.std.proofs.Common.{◌≡◌, ◌+◌, drop}
use Rattle.path_tree.specs.Paths.{shared}
use Rattle.path_tree.proofs.path.Path.shared_names.Given as goal

abbrev pub invariant-loop-i : goal.invariant-loop-i
invariant-loop-i l = shared l.own l.others ≡ l.i + shared (drop l.i l.own) (drop l.i l.others)
