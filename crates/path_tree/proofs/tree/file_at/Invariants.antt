use Rattle.std.proofs.Common.{◌≡◌, drop}
use Rattle.std.specs.Prelude.{slice_get}
use Rattle.path_tree.specs.Trees.{files_in}
use Rattle.path_tree.proofs.tree.file_at.Given as goal

abbrev pub invariant-loop-path : goal.invariant-loop-path
invariant-loop-path l = slice_get (files_in l.entries) l.i ≡ slice_get (files_in (drop l.path-index l.entries)) l.left
