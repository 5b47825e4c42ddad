use Rattle.std.proofs.Common.{◌≡◌, List, map, take}
use Rattle.std.specs.List.{flat_map}
use Rattle.path_resolver.specs.Resolving.{HeldModule}
use Rattle.path_resolver.specs.Shots.{view_held}
use Rattle.tuner_core.specs.Stands.{modules_of}
use Rattle.tuner_core.proofs.tuner.table_of.Given as goal

abbrev pub invariant-loop-tuned : goal.invariant-loop-tuned
invariant-loop-tuned l = ◌≡◌ {A = List HeldModule} (map view_held l.table.items) (flat_map modules_of (take l.tuned-index l.held))
