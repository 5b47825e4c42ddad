use Rattle.std.proofs.Common.{◌≡◌, map}
use Rattle.generation.proofs.Words.{Layout, AreMarked, range_with_len, count_after, view_listed}
use Rattle.generation.proofs.made.counts_next.Given as goal

abbrev pub invariant-loop-id : goal.invariant-loop-id
invariant-loop-id l = (before : Layout) → AreMarked before l.modules → l.after.items ≡ map (count_after before (map view_listed l.modules) l.counts) (range_with_len 0 l.id)
