-- The path that a refusal is of.
use Rattle.std.specs.Prelude.{List, [], slice_get, Option, Some, None}
use Rattle.path_tree.specs.Paths.{PathNames}
use Rattle.path_tree.specs.Edits.{path_in}
use Rattle.path_tree.specs.declared.tree.Edit.{Edit}
use Rattle.generation_catalogue.specs.declared.entry.Refusal.{Refusal}
use Rattle.generation_catalogue.specs.declared.entry.Refusal.TheVariants as refusals

-- the path of the file that is too large
abbrev pub refused_path : List Edit → Refusal → PathNames
refused_path es (refusals.Edit place fault) = go (slice_get es place) where
  go : Option Edit → PathNames
  go (Some e) = path_in e
  go None = []
refused_path es _ = []
