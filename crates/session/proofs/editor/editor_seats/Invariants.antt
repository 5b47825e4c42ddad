use Rattle.session.proofs.Words.{◌≡◌, length, lists_of, EachAt}
use Rattle.session.proofs.Editing.{IsNewEditor}
use Rattle.session.proofs.Taking.{AreLeft}
use Rattle.session.proofs.editor.editor_seats.Given as goal

abbrev pub invariant-loop-pass : goal.invariant-loop-pass
invariant-loop-pass g l = record {
  count : length l.seats.items ≡ length l.yielded;
  made : EachAt (IsNewEditor l.numbers l.fn.passes.items (lists_of l.fn.commits)) l.seats.items;
  left : AreLeft l.numbers (length l.yielded) (lists_of l.fn.commits) (lists_of l.commits);
}
