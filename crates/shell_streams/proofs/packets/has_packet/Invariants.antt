use Rattle.std.proofs.Common.{◌≡◌, ◌≤◌, ◌-◌, length}
use Rattle.carousel_profile.specs.declared.TheConstants.{PACKET_LENGTH}
use Rattle.shell_streams.specs.Packets.{onto_left}
use Rattle.shell_streams.proofs.packets.has_packet.Given as goal

abbrev pub invariant-loop-unread : goal.invariant-loop-unread
invariant-loop-unread g l = record {
  rest : onto_left l.unread (g.S.Source.left l.source) ≡ onto_left l.fn.unread (g.S.Source.left l.fn.source);
  grown : length l.fn.unread ≤ length l.unread;
  later : g.S.Source.faults l.fn.source ≤ g.S.Source.faults l.source;
}

abbrev pub decreases-loop-unread : goal.decreases-loop-unread
decreases-loop-unread g l = PACKET_LENGTH - length l.unread
