use Rattle.std.proofs.Common.{◌≤◌}
use Rattle.folder_store.proofs.os_store.OsStore.clear.Given as goal

-- each turn before this one raised the count, up to its type's end
abbrev pub invariant-loop : goal.invariant-loop
invariant-loop g l = record {
  later : l.fn.self.faults ≤ l.self.faults;
}
