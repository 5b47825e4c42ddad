use Rattle.session.proofs.Words.{◌≡◌, ◌++◌, ◌+◌, List, map, length, false, shown_by, IsSameBoard, IsStationPass, DrawFields, HasFed, draw_of}
use Rattle.session.proofs.feeder.feed.Given as goal

-- the draws so far were made
abbrev pub invariant-loop-line : goal.invariant-loop-line
invariant-loop-line g l = record {
  pass : IsStationPass l.station l.seat.pass;
  unfinished : l.seat.whole ≡ false;
  board : IsSameBoard l.fn.shower l.shower;
  count : length (shown_by l.shower) ≡ length (shown_by l.fn.shower) + length l.yielded;
  made : (lines : List DrawFields) → HasFed l.station lines l.fn.seat (shown_by l.fn.shower) → HasFed l.station (lines ++ map draw_of l.yielded) l.seat (shown_by l.shower);
}
