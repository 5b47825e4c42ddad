use Rattle.history_merge.proofs.Words.{◌≡◌, ◌-◌, ◌++◌, map, flat_map, range_with_len, view_waiting, waited_by}
use Rattle.history_merge.proofs.history.by_number.Given as goal

abbrev pub invariant-loop-number : goal.invariant-loop-number
invariant-loop-number l = map view_waiting l.waiting.items ++ flat_map (waited_by l.passes) (range_with_len l.number (65 - l.number)) ≡ flat_map (waited_by l.passes) (range_with_len 1 64)
