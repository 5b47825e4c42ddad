use Rattle.std.proofs.Common.{map, take}
use Rattle.section_stream.specs.Kept.{view_bytes}
use Rattle.carousel_world.proofs.Carrying.{Sent}
use Rattle.carousel_world.proofs.downlink.Downlink.send.Given as goal

-- the sections so far were sent, and what arrived of their packets was heard
abbrev pub invariant-loop-section : goal.invariant-loop-section
invariant-loop-section l = Sent l.fn.self l.self l.fates l.from l.number (map view_bytes (take l.section-index l.sections))
