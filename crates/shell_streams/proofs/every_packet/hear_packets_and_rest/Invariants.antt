use Rattle.std.proofs.Common.{◌≤◌, List}
use Rattle.shell_streams.specs.Cuts.{Bytes}
use Rattle.shell_streams.specs.Packets.{onto_left, HasTaken}
use Rattle.shell_streams.proofs.every_packet.hear_packets_and_rest.Given as goal

abbrev pub invariant-loop-unread : goal.invariant-loop-unread
invariant-loop-unread g l = record {
  packets : List Bytes;
  taken : HasTaken packets l.most (g.S.Source.left l.fn.source) (onto_left l.unread (g.S.Source.left l.source));
  heard : g.L.PacketListener.heard l.fn.listener l.listener packets;
  later : g.S.Source.faults l.fn.source ≤ g.S.Source.faults l.source;
}

abbrev pub decreases-loop-unread : goal.decreases-loop-unread
decreases-loop-unread g l = l.most
