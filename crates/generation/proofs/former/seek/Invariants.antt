use Rattle.std.proofs.Common.{take}
use Rattle.generation.proofs.Words.{AreBefore, view_spot}
use Rattle.generation.proofs.former.seek.Given as goal

abbrev pub invariant-loop-place : goal.invariant-loop-place
invariant-loop-place l = AreBefore l.old_tree (view_spot l.tree l.spot).path (take l.place l.old)
