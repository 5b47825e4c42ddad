use Rattle.std.proofs.Common.{◌+◌, ◌-◌, ◌^◌, ◌≤◌, min, ◌≡◌, ◌||◌}
use Rattle.oc_bytes.proofs.real.StdSinkSink.write.Given as goal

-- each turn before this one raised the count, up to its type's end
abbrev pub invariant-loop : goal.invariant-loop
invariant-loop g l = record {
  later : l.fn.self.faults ≤ l.self.faults;
  failed : l.self.has_failed ≡ l.fn.self.has_failed;
  late : l.self.is_late ≡ (l.fn.self.has_failed || l.fn.self.is_late);
  risen : min (l.fn.self.faults + l.counter) (2 ^ 64 - 1) ≤ l.self.faults;
}
