use Rattle.std.proofs.Common.{◌≡◌, map, take}
use Rattle.path_tree.specs.Edits.{is_edited}
use Rattle.path_tree.proofs.edited.edited_entries.Given as goal

abbrev pub invariant-loop-edit : goal.invariant-loop-edit
invariant-loop-edit l = l.edited.items ≡ map (λ e. is_edited (take l.edit-index l.edits) e.0) l.tree
