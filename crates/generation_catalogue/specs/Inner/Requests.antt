-- What an accepted commit makes.
use Rattle.std.specs.Prelude.{List}
use Rattle.path_tree.specs.Edits.{apply_all}
use Rattle.path_tree.specs.declared.tree.Edit.{Edit}
use Rattle.generation.specs.Layouts.{GenerationState, next_of}
use Rattle.generation_catalogue.specs.History.{CatalogueState, current_of, trees_of, last_tree, or_same}

-- the generation that an accepted commit makes
abbrev pub generation_after : CatalogueState → List Edit → GenerationState
generation_after c edits = next_of (current_of c) (or_same (last_tree (trees_of c)) (apply_all (last_tree (trees_of c)) edits))
