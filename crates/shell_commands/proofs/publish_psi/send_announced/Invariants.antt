use Rattle.std.proofs.Common.{◌≡◌, map}
use Rattle.std.specs.List.{concat}
use Rattle.cycle_planner.specs.Cycle.{cycle_of}
use Rattle.generation.specs.Layouts.{lines_of, section_of}
use Rattle.shell_streams.specs.Sending.{HasPut}
use Rattle.shell_commands.specs.Announced.{after_cycles, cycles_sent, senders_start}
use Rattle.shell_commands.proofs.publish_psi.send_announced.Given as goal

abbrev pub invariant-loop : goal.invariant-loop
invariant-loop g l = record {
  puts : HasPut (g.O.Output.state l.fn.out) (g.O.Output.state l.out) (concat (cycles_sent (map (section_of l.generation) (cycle_of l.weigh.weights (lines_of l.generation))) l.counter (senders_start l.carousel)));
  tables : l.announcer ≡ (after_cycles (map (section_of l.generation) (cycle_of l.weigh.weights (lines_of l.generation))) l.counter (senders_start l.carousel)).tables;
  objects : l.sender.mux ≡ (after_cycles (map (section_of l.generation) (cycle_of l.weigh.weights (lines_of l.generation))) l.counter (senders_start l.carousel)).objects;
}
