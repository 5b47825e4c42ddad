use Rattle.std.proofs.Common.{List, ◌++◌, map, take}
use Rattle.section_stream.specs.Cuts.{Bytes}
use Rattle.section_stream.specs.Kept.{view_bytes}
use Rattle.tuner_core.specs.Stands.{StandsFor}
use Rattle.mount_table.proofs.receiver.hear_all.Given as goal

abbrev pub invariant-loop-section : goal.invariant-loop-section
invariant-loop-section l = (heard : List Bytes) → StandsFor l.fn.tuner heard → StandsFor l.tuner (heard ++ map view_bytes (take l.section-index l.fn.sections.items))
