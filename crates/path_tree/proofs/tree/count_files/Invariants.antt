use Rattle.std.proofs.Common.{◌≡◌, ◌≤◌, ◌+◌, length, drop}
use Rattle.path_tree.specs.Trees.{files_in}
use Rattle.path_tree.proofs.tree.count_files.Given as goal

abbrev pub invariant-loop-entry : goal.invariant-loop-entry
invariant-loop-entry l = record {
  counted : length (files_in l.entries) ≡ l.count + length (files_in (drop l.entry-index l.entries));
  few : l.count ≤ l.entry-index;
}
