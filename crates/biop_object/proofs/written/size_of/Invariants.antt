use Rattle.std.proofs.Common.{◌≡◌, ◌≤◌, ◌+◌, take}
use Rattle.std.specs.List.{sum_by}
use Rattle.biop_object.specs.Objects.{binding_size}
use Rattle.biop_object.proofs.written.size_of.Given as goal

abbrev pub invariant-loop-entry : goal.invariant-loop-entry
invariant-loop-entry l = (l.size ≡ 34 + sum_by binding_size (take l.entry-index l.entries)) × (l.size ≤ 1048576)
