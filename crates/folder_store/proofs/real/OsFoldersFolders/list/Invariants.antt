use Rattle.std.proofs.Common.{◌≡◌, ◌+◌, ◌-◌, ◌^◌, ◌≤◌, min}
use Rattle.folder_store.proofs.real.OsFoldersFolders.list.Given as goal

-- each turn before this one raised the count, up to its type's end
abbrev pub invariant-loop : goal.invariant-loop
invariant-loop g l = record {
  kept : l.self.refused ≡ l.fn.self.refused;
  later : l.fn.self.faults ≤ l.self.faults;
  risen : min (l.fn.self.faults + l.counter) (2 ^ 64 - 1) ≤ l.self.faults;
}
