use Rattle.session.proofs.Words.{◌≤◌, ◌-◌, length, map, take, section_of, SentSo}
use Rattle.session.proofs.feeder.send.Given as goal

-- the items so far were sent, and the draw goes on
abbrev pub invariant-loop-sections : goal.invariant-loop-sections
invariant-loop-sections g l = record {
  within : l.sent ≤ length l.items;
  so : SentSo l.fn.downlink l.downlink l.fates l.number (map (section_of l.generation) (take l.sent l.items));
}

abbrev pub decreases-loop-sections : goal.decreases-loop-sections
decreases-loop-sections g l = length l.items - l.sent
