use Rattle.std.proofs.Common.{◌++◌, List, map, take}
use Rattle.path_tree.specs.Paths.{Bytes}
use Rattle.section_stream.specs.Kept.{view_bytes}
use Rattle.tuner_core.specs.Stands as tuning
use Rattle.carousel_world.proofs.downlink.listen.Given as goal

abbrev pub invariant-loop-candidate : goal.invariant-loop-candidate
invariant-loop-candidate l = (before : List Bytes) → tuning.StandsFor l.fn.tuner before → tuning.StandsFor l.tuner (before ++ map view_bytes (take l.candidate-index l.candidates))
