use Rattle.std.proofs.Common.{map, take}
use Rattle.section_stream.specs.Kept.{view_bytes}
use Rattle.shell_streams.specs.Sending.{HasPut}
use Rattle.receiver_commands.specs.Accepted.{accepted_bytes}
use Rattle.receiver_commands.proofs.record.put_accepted.Given as goal

abbrev pub invariant-loop-candidate : goal.invariant-loop-candidate
invariant-loop-candidate g l = record {
  puts : HasPut (g.O.Output.state l.fn.out) (g.O.Output.state l.out) (accepted_bytes (map view_bytes (take l.candidate-index l.candidates)));
}
