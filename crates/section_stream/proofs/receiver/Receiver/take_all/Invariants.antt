use Rattle.std.proofs.Common.{◌≡◌, ◌<◌, List, length, map}
use Rattle.section_stream.specs.Cuts.{Bytes}
use Rattle.section_stream.specs.Kept.{view_bytes}
use Rattle.section_stream.specs.Pieces.{packets_of, rest_of}
use Rattle.section_stream.specs.Rules.{Receiving}
use Rattle.section_stream.specs.Inner.Rules.{HasRun, outputs}
use Rattle.section_stream.proofs.receiver.Receiver.take_all.Given as goal

-- whatever the packets that are left lead to, all of them lead to
abbrev pub invariant-loop-packet : goal.invariant-loop-packet
invariant-loop-packet l = record {
  run : (t : Receiving) (after : List Bytes) → HasRun l.self t (packets_of l.rest) (map view_bytes l.out.items) after → HasRun l.fn.self t (packets_of l.fn.bytes) (map view_bytes l.fn.out.items) after;
  rest : rest_of l.rest ≡ rest_of l.fn.bytes;
  asked : 0 < length (outputs l.self (packets_of l.rest)) → 0 < length (outputs l.fn.self (packets_of l.fn.bytes));
}

abbrev pub decreases-loop-packet : goal.decreases-loop-packet
decreases-loop-packet l = length l.rest
