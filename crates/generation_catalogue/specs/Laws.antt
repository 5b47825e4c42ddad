-- What holds of every history.
use Rattle.std.specs.Prelude.{◌≡◌, ℕ, List, ◌++◌, length}
use Rattle.std.specs.List.{All, Contains}
use Rattle.path_tree.specs.Trees.{Tree}
use Rattle.path_tree.specs.declared.tree.Edit.{Edit}
use Rattle.generation.specs.Layouts.{items_of}
use Rattle.generation_catalogue.specs.History.{CatalogueState, current_of, trees_of, items_drawn, with_commit, with_draw}

-- what was published stays: a commit adds a tree at the end, or none, and a draw adds none
pub record HistoriesGrow : Type 0 where
  pub by_commit : (c : CatalogueState) (editor : ℕ) (edits : List Edit) → (rest : List Tree) × (trees_of (with_commit c editor edits) ≡ trees_of c ++ rest)
  pub by_draw : (c : CatalogueState) (asked : ℕ) → trees_of (with_draw c asked) ≡ trees_of c
  -- the current generation has the number of the trees, and what is drawn are items of it
  pub number : (c : CatalogueState) → (current_of c).number ≡ length (trees_of c)
  pub items : (c : CatalogueState) (asked : ℕ) → All (Contains (items_of (current_of c))) (items_drawn c asked)
