use Rattle.std.proofs.Common.{◌≡◌, ◌≤◌, ◌-◌, length}
use Rattle.shell_streams.specs.Packets.{onto_left}
use Rattle.shell_streams.proofs.sections.next_section.Given as goal

abbrev pub invariant-loop-unread : goal.invariant-loop-unread
invariant-loop-unread g l = record {
  rest : onto_left l.unread (g.S.Source.left l.source) ≡ onto_left l.fn.unread (g.S.Source.left l.fn.source);
  later : g.S.Source.faults l.fn.source ≤ g.S.Source.faults l.source;
}

abbrev pub decreases-loop-unread : goal.decreases-loop-unread
decreases-loop-unread g l = 4098 - length l.unread
