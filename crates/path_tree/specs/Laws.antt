-- What holds between a tree and its folders in folders.
use Rattle.std.specs.Prelude.{◌≡◌}
use Rattle.path_tree.specs.Paths.{PathNames}
use Rattle.path_tree.specs.Trees.{Tree, IsTree, node_at}
use Rattle.path_tree.specs.Nestings.{Nesting, IsNesting, flat, nested, stands_at}

-- a nesting has just the tree's entries, and what stands at a path is what the walk down the nesting meets
pub record IsNestingOf (t : Tree) (g : Nesting) : Type 0 where
  pub entries : flat g ≡ t
  pub nesting : IsNesting g
  pub walk : (p : PathNames) → node_at t p ≡ stands_at g p

abbrev pub TreesAreNestings : Type 0
TreesAreNestings = (t : Tree) → IsTree t → IsNestingOf t (nested t)

-- and no other nesting has them
abbrev pub NestingsAreTheirEntries : Type 0
NestingsAreTheirEntries = (g : Nesting) → IsNesting g → nested (flat g) ≡ g
