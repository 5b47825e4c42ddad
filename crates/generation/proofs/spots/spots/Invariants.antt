use Rattle.std.proofs.Common.{take, drop}
use Rattle.generation.proofs.Words.{path_before, path_at, Keeps}
use Rattle.generation.proofs.spots.spots.Given as goal

abbrev pub invariant-loop-at : goal.invariant-loop-at
invariant-loop-at l = Keeps l.entries (path_before l.entries l.at) (drop l.at l.entries) l.spots.items l.folders.items

abbrev pub invariant-loop-depth : goal.invariant-loop-depth
invariant-loop-depth l = Keeps l.entries (take l.depth (path_at l.entries l.at)) (drop l.at l.entries) l.spots.items l.folders.items
