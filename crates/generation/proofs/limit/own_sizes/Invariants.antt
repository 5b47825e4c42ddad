use Rattle.std.proofs.Common.{◌≡◌, ◌≤◌, ◌+◌, [], take, map}
use Rattle.generation.proofs.Words.{All, size_of, view_spot}
use Rattle.path_tree.specs.declared.tree.TheConstants.{MOST_CONTENT}
use Rattle.biop_object.specs.declared.written.TheConstants.{FILE_FRONT}
use Rattle.generation.proofs.limit.own_sizes.Given as goal

abbrev pub invariant-loop-spot : goal.invariant-loop-spot
invariant-loop-spot l = record {
  sizes : l.sizes.items ≡ map (size_of []) (map (view_spot l.tree) (take l.spot-index l.spots));
  small : All (λ n. n ≤ FILE_FRONT + MOST_CONTENT) l.sizes.items;
}
