use Rattle.std.proofs.Common.{◌≡◌, map, take, length, filter}
use Rattle.history_merge.specs.Merging.{known_view}
use Rattle.carousel_shell.specs.Big.{is_first, finale_lengths}
use Rattle.carousel_shell.proofs.counts.finale_lengths.Given as goal

abbrev pub invariant-loop-one : goal.invariant-loop-one
invariant-loop-one l =
    (l.opens ≡ length (filter is_first (map known_view (take l.one-index l.told)))) × (l.lengths.items ≡ finale_lengths (map known_view (take l.one-index l.told)))
