use Rattle.std.proofs.Common.{◌≡◌, ◌++◌, ◌<◌, ◌≤◌, ◌+◌, ◌/◌, ◌%◌, length, vec_capacity, vec_len}
use Rattle.section_stream.specs.Packing.{number_packets, sent_of}
use Rattle.section_stream.proofs.mux.put_rest.Given as goal

-- the packets so far and those of what is left are all the packets
abbrev pub invariant-loop-rest : goal.invariant-loop-rest
invariant-loop-rest l = record {
  bound : l.counter < 16;
  room : vec_len l.out + (length l.rest + 1) / 184 ≤ vec_capacity l.out;
  packets : l.out.items ++ number_packets l.pid l.counter (sent_of l.rest).given ≡ l.fn.out.items ++ number_packets l.fn.pid l.fn.first (sent_of l.fn.section).given;
  tail : (sent_of l.rest).tail ≡ (sent_of l.fn.section).tail;
  next : (l.counter + length (sent_of l.rest).given) % 16 ≡ (l.fn.first + length (sent_of l.fn.section).given) % 16;
}

abbrev pub decreases-loop-rest : goal.decreases-loop-rest
decreases-loop-rest l = length l.rest
