use Rattle.std.proofs.Common.{◌≡◌, take}
use Rattle.path_tree.proofs.tree.shared.Given as goal

abbrev pub invariant-loop-path : goal.invariant-loop-path
invariant-loop-path l = l.copy.items ≡ take l.path-index l.entries
