use Rattle.std.proofs.Common.{◌≤◌, List}
use Rattle.shell_streams.specs.Cuts.{Bytes}
use Rattle.shell_streams.specs.Packets.{HasCut}
use Rattle.shell_streams.proofs.carrier.hear_packets.Given as goal

abbrev pub invariant-loop-reader : goal.invariant-loop-reader
invariant-loop-reader g l = record {
  sections : List Bytes;
  cut : HasCut l.pid l.reader (g.S.Source.left l.fn.source) (g.S.Source.left l.source) sections;
  heard : g.L.Listener.heard l.fn.listener l.listener sections;
  later : g.S.Source.faults l.fn.source ≤ g.S.Source.faults l.source;
}

abbrev pub decreases-loop-reader : goal.decreases-loop-reader
decreases-loop-reader g l = l.reader.most
