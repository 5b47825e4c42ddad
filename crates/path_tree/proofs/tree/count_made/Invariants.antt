use Rattle.std.proofs.Common.{◌≡◌, ◌≤◌, ◌+◌, length, drop}
use Rattle.path_tree.specs.Trees.{made_in}
use Rattle.path_tree.proofs.tree.count_made.Given as goal

abbrev pub invariant-loop-entry : goal.invariant-loop-entry
invariant-loop-entry l = record {
  counted : length (made_in l.entries) ≡ l.count + length (made_in (drop l.entry-index l.entries));
  few : l.count ≤ l.entry-index;
}
