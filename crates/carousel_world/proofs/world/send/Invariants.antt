use Rattle.std.proofs.Common.{◌≤◌, ◌-◌, length, map, take}
use Rattle.generation.specs.Layouts.{section_of}
use Rattle.carousel_world.proofs.Carrying.{SentSo}
use Rattle.carousel_world.proofs.world.send.Given as goal

-- the items so far were sent, and the draw goes on
abbrev pub invariant-loop-sections : goal.invariant-loop-sections
invariant-loop-sections l = record {
  within : l.sent ≤ length l.items;
  so : SentSo l.fn.downlink l.downlink l.fates l.number (map (section_of l.generation) (take l.sent l.items));
}

abbrev pub decreases-loop-sections : goal.decreases-loop-sections
decreases-loop-sections l = length l.items - l.sent
