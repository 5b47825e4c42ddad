use Rattle.std.proofs.Common.{◌≡◌, drop}
use Rattle.path_tree.specs.Edits.{apply_all, apply_from}
use Rattle.path_tree.specs.Trees.{IsTree}
use Rattle.path_tree.proofs.tree.apply.Given as goal

abbrev pub invariant-loop-place : goal.invariant-loop-place
invariant-loop-place l = record {
  tree : IsTree l.entries.items;
  so_far : apply_all l.tree l.edits ≡ apply_from l.place l.entries.items (drop l.place l.edits);
}
