-- Objects of one tree beside those of another, both in the order of paths.
use Rattle.std.specs.Prelude.{◌≡◌, List}
use Rattle.std.specs.List.{All}
use Rattle.std.specs.declared.cmp.Ordering.TheVariants.{Less}
use Rattle.path_tree.specs.Paths.{PathNames, path_cmp}
use Rattle.path_tree.specs.Trees.{Tree}
use Rattle.generation.specs.View.{view_spot}
use Rattle.generation.specs.declared.objects.Placed.{Placed}

-- objects of a tree that come before a path
abbrev pub AreBefore : Tree → PathNames → List Placed → Type 0
AreBefore t p objects = All (λ o. path_cmp (view_spot t o.spot).path p ≡ Less) objects
