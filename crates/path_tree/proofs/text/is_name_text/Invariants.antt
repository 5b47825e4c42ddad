use Rattle.std.proofs.Common.{length, ◌+◌, ◌≤◌}
use Rattle.path_tree.proofs.Checked.{IsUndone}
use Rattle.path_tree.proofs.text.is_name_text.Given as goal

abbrev pub invariant-loop-rest : goal.invariant-loop-rest
invariant-loop-rest l = record {
  within : l.count + length l.rest ≤ length l.text;
  so_far : IsUndone l.text l.rest l.count l.clean;
}

abbrev pub decreases-loop-rest : goal.decreases-loop-rest
decreases-loop-rest l = length l.rest
