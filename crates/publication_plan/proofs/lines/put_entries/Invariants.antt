use Rattle.std.proofs.Common.{◌≤◌, length}
use Rattle.std.specs.String.{string_bytes}
use Rattle.publication_plan.proofs.Between.{IsTelling}
use Rattle.publication_plan.proofs.lines.put_entries.Given as goal

abbrev pub invariant-loop-object : goal.invariant-loop-object
invariant-loop-object l = record {
  within : l.next ≤ length l.left;
  telling : IsTelling l.tree l.objects l.left (string_bytes l.text) (string_bytes l.fn.text) l.object-index l.next;
}
