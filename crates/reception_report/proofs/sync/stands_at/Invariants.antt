use Rattle.std.proofs.Common.{◌≡◌, ◌+◌, ◌-◌, ◌*◌}
use Rattle.std.specs.Prelude.{◌==◌, slice_index}
use Rattle.std.specs.List.{list_all, range_with_len}
use Rattle.reception_report.proofs.sync.stands_at.Given as goal

abbrev pub invariant-loop-i : goal.invariant-loop-i
invariant-loop-i l =
    list_all (λ i. slice_index l.front (i * l.distance + l.place) == 0x47) (range_with_len l.i (l.stretches - l.i))
    ≡ list_all (λ i. slice_index l.front (i * l.distance + l.place) == 0x47) (range_with_len 0 l.stretches)
