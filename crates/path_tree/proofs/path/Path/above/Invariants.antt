use Rattle.std.proofs.Common.{◌≡◌, take}
use Rattle.path_tree.proofs.path.Path.above.Given as goal

abbrev pub invariant-loop-name : goal.invariant-loop-name
invariant-loop-name l = l.front.items ≡ take l.name-index l.name-items
