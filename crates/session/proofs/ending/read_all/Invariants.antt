use Rattle.session.proofs.Words.{◌≡◌, All, shown_by, script_of_parts, IsSameBoard, Setting, HasRead, ReaderDone, AreAll, readers_of, whose}
use Rattle.session.proofs.ending.read_all.Given as goal

abbrev pub invariant-loop-seat : goal.invariant-loop-seat
invariant-loop-seat l = record {
  shown : shown_by l.shower ≡ shown_by l.fn.shower;
  board : IsSameBoard l.fn.shower l.shower;
  readers : whose l.passes.items ≡ readers_of l.yielded;
  read : (setting : Setting) → All (ReaderDone setting) l.fn.readers.items → AreAll setting (shown_by l.fn.shower)
      → All (HasRead (script_of_parts setting.parts) (shown_by l.fn.shower)) l.passes.items;
}
