use Rattle.std.proofs.Common.{◌≡◌, List, drop, map}
use Rattle.generation.proofs.Words.{find, Tree, Spot, is_large_folder, size_of, view_spot}
use Rattle.generation.proofs.limit.first_large.Given as goal

abbrev pub invariant-loop-index : goal.invariant-loop-index
invariant-loop-index l = (t : Tree) (all : List Spot) → map (view_spot t) l.spots ≡ all → l.sizes ≡ map (size_of all) all
    → find (is_large_folder all) all ≡ find (is_large_folder all) (drop l.index all)
