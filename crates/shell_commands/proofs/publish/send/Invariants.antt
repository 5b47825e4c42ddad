use Rattle.std.proofs.Common.{◌≡◌, map}
use Rattle.std.specs.List.{concat, fold}
use Rattle.cycle_planner.specs.Cycle.{cycle_of}
use Rattle.generation.specs.Layouts.{lines_of, section_of}
use Rattle.section_stream.specs.Packing.{idle, packets_of_all, past}
use Rattle.carousel_world.specs.Publishing.{repeat_list}
use Rattle.shell_streams.specs.Sending.{HasPut}
use Rattle.shell_commands.proofs.publish.send.Given as goal

abbrev pub invariant-loop : goal.invariant-loop
invariant-loop g l = record {
  puts : HasPut (g.O.Output.state l.fn.out) (g.O.Output.state l.out) (concat (packets_of_all (idle l.pid 0) (map (section_of l.generation) (repeat_list l.counter (cycle_of l.weigh.weights (lines_of l.generation))))));
  mux : l.sender.mux ≡ fold past (idle l.pid 0) (map (section_of l.generation) (repeat_list l.counter (cycle_of l.weigh.weights (lines_of l.generation))));
}
