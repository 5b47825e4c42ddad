use Rattle.session.proofs.Words.{◌≡◌, ◌++◌, ℕ, List, map, false, Edit, IsStationPass, HasCommitted, edits_of}
use Rattle.session.proofs.editor.edit.Given as goal

-- the commits so far were made
abbrev pub invariant-loop-line : goal.invariant-loop-line
invariant-loop-line g l = record {
  pass : IsStationPass l.station l.seat.pass;
  unfinished : l.seat.whole ≡ false;
  editor : l.seat.number ≡ l.fn.seat.number;
  made : (place : ℕ) (lines : List (List Edit)) → HasCommitted l.station place lines l.fn.seat.pass → HasCommitted l.station place (lines ++ map edits_of l.yielded) l.seat.pass;
}
