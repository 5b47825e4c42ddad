use Rattle.std.proofs.Common.{◌++◌, length}
use Rattle.std.specs.List.{All, Contains, concat}
use Rattle.cycle_planner.specs.Cycle.{cycle_of}
use Rattle.cycle_planner.specs.Walks.{IsWalk, left_of}
use Rattle.generation.specs.Layouts.{items_of, lines_of, section_of}
use Rattle.shell_streams.specs.Cuts.{Bytes}
use Rattle.shell_streams.specs.Sending.{HasPut}
use Rattle.cycle_sender.proofs.Sending.{IsSending}
use Rattle.cycle_sender.proofs.sender.Sender.send_cycle.Given as goal

abbrev pub invariant-loop-item : goal.invariant-loop-item
invariant-loop-item g l = record {
  walk : IsWalk l.weigh.weights l.lines l.walk;
  own : All (Contains (items_of l.generation)) (left_of l.weigh.weights l.lines l.walk);
  put : Bytes;
  puts : HasPut (g.O.Output.state l.fn.out) (g.O.Output.state l.out) put;
  sending : IsSending (section_of l.generation) l.fn.self.mux l.self.mux (cycle_of l.weigh.weights (lines_of l.generation)) (left_of l.weigh.weights l.lines l.walk) (put ++ concat l.self.packets.items);
}

abbrev pub decreases-loop-item : goal.decreases-loop-item
decreases-loop-item g l = length (left_of l.weigh.weights l.lines l.walk)
