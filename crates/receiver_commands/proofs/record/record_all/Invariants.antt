use Rattle.std.proofs.Common.{◌≡◌, ◌≤◌, false, List, []}
use Rattle.shell_streams.specs.Cuts.{Bytes}
use Rattle.shell_streams.specs.Packets.{HasCut, is_ready}
use Rattle.shell_streams.specs.Sending.{HasPut}
use Rattle.receiver_commands.specs.Accepted.{accepted_bytes}
use Rattle.receiver_commands.proofs.record.record_all.Given as goal

abbrev pub invariant-loop-reader : goal.invariant-loop-reader
invariant-loop-reader g l = record {
  candidates : List Bytes;
  cut : HasCut l.pid l.reader (g.S.Source.left l.fn.source) (g.S.Source.left l.source) candidates;
  puts : HasPut (g.O.Output.state l.fn.out) (g.O.Output.state l.out) (accepted_bytes candidates);
  due : is_ready l.reader ≡ false → (g.O.Output.state l.out).pending ≡ [];
  later : g.S.Source.faults l.fn.source ≤ g.S.Source.faults l.source;
}

abbrev pub decreases-loop-reader : goal.decreases-loop-reader
decreases-loop-reader g l = l.reader.most
