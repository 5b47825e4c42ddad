use Rattle.std.proofs.Common.{length}
use Rattle.std.specs.List.{All, Contains}
use Rattle.cycle_planner.specs.Cycle.{cycle_of}
use Rattle.cycle_planner.specs.Walks.{IsWalk, left_of}
use Rattle.generation.specs.Layouts.{items_of, lines_of, section_of}
use Rattle.section_stream.specs.Packing.{idle}
use Rattle.publication_plan.proofs.Packets.{IsCounting}
use Rattle.publication_plan.proofs.counting.count_cycle.Given as goal

abbrev pub invariant-loop-item : goal.invariant-loop-item
invariant-loop-item g l = record {
  walk : IsWalk l.weigh.weights l.lines l.walk;
  own : All (Contains (items_of l.generation)) (left_of l.weigh.weights l.lines l.walk);
  counting : IsCounting (section_of l.generation) (idle 256 0) l.counter.mux (cycle_of l.weigh.weights (lines_of l.generation)) (left_of l.weigh.weights l.lines l.walk) l.packets;
}

abbrev pub decreases-loop-item : goal.decreases-loop-item
decreases-loop-item g l = length (left_of l.weigh.weights l.lines l.walk)
