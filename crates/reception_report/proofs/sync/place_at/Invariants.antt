use Rattle.std.proofs.Common.{◌≡◌, ◌-◌}
use Rattle.std.specs.List.{find, range_with_len}
use Rattle.reception_report.specs.Sync.{stands_at}
use Rattle.reception_report.proofs.sync.place_at.Given as goal

abbrev pub invariant-loop-place : goal.invariant-loop-place
invariant-loop-place l =
    find (stands_at l.distance l.front) (range_with_len l.place (l.distance - l.place)) ≡ find (stands_at l.distance l.front) (range_with_len 0 l.distance)
