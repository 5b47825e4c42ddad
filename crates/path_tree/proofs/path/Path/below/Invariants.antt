use Rattle.std.proofs.Common.{◌≡◌, take}
use Rattle.path_tree.proofs.path.Path.below.Given as goal

abbrev pub invariant-loop-own : goal.invariant-loop-own
invariant-loop-own l = l.names.items ≡ take l.own-index l.own-items
