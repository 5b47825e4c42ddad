use Rattle.std.proofs.Common.{◌≡◌, ℕ, List, take}
use Rattle.generation.proofs.Words.{Placed, bytes_of_all}
use Rattle.generation.proofs.unchanged.are_same_files.Given as goal

abbrev pub invariant-loop-place : goal.invariant-loop-place
invariant-loop-place l = (c : ℕ) (olds objects : List Placed) → bytes_of_all c olds l.old_tree (take l.place l.before) ≡ bytes_of_all c objects l.tree (take l.place l.after)
