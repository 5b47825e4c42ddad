use Rattle.std.proofs.Common.{◌≡◌, ◌≤◌, ◌*◌, take}
use Rattle.std.specs.List.{sum}
use Rattle.carousel_shell.proofs.counts.total.Given as goal

abbrev pub invariant-loop-bytes : goal.invariant-loop-bytes
invariant-loop-bytes l = record {
  so_far : l.total ≡ sum (take l.bytes-index l.lengths);
  few : l.total ≤ 18446744073709551615 * l.bytes-index;
}
