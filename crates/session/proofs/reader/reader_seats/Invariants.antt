use Rattle.session.proofs.Words.{◌≡◌, length, lists_of, EachAt}
use Rattle.session.proofs.Reading.{IsNewReader}
use Rattle.session.proofs.Taking.{AreLeft}
use Rattle.session.proofs.reader.reader_seats.Given as goal

abbrev pub invariant-loop-viewer : goal.invariant-loop-viewer
invariant-loop-viewer l = record {
  count : length l.seats.items ≡ length l.yielded;
  made : EachAt (IsNewReader l.numbers l.fn.viewers.items l.before (lists_of l.fn.paths) (lists_of l.fn.finales)) l.seats.items;
  paths_left : AreLeft l.numbers (length l.yielded) (lists_of l.fn.paths) (lists_of l.paths);
  finales_left : AreLeft l.numbers (length l.yielded) (lists_of l.fn.finales) (lists_of l.finales);
}
