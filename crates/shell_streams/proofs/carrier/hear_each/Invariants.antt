use Rattle.std.proofs.Common.{List, ◌++◌, map, take}
use Rattle.section_stream.specs.Kept.{view_bytes}
use Rattle.shell_streams.specs.Cuts.{Bytes}
use Rattle.shell_streams.proofs.carrier.hear_each.Given as goal

abbrev pub invariant-loop-section : goal.invariant-loop-section
invariant-loop-section g l = (start : _) (candidates : List Bytes) → g.L.Listener.heard start l.fn.listener candidates → g.L.Listener.heard start l.listener (candidates ++ map view_bytes (take l.section-index l.sections))
