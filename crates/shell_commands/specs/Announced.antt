-- What `publish-psi` sends: whole cycles of one tree, each a group of sections after the tables that name the carousel.
use Rattle.std.specs.Prelude.{ℕ, zero, suc, List, [], ◌++◌}
use Rattle.std.specs.List.{concat}
use Rattle.path_tree.specs.Trees.{Tree}
use Rattle.section_stream.specs.Groups.{packets_of_group, past_group}
use Rattle.section_stream.specs.Packing.{MuxState, idle}
use Rattle.psi_tables.specs.Written.{AnnouncerState, announcer_start, announcer_packets, after_announcing}
use Rattle.carousel_world.specs.Broadcasts.{sections}
use Rattle.carousel_world.specs.Publishing.{publication}
use Rattle.shell_streams.specs.Cuts.{Bytes}

-- what sends the tables on the PIDs 0 and 32, and what sends the objects on PID 256, each PID with a counter of its own
pub record Senders : Type 0 where
  pub tables : AnnouncerState
  pub objects : MuxState

abbrev pub senders_start : ℕ → Senders
senders_start carousel = record { tables = announcer_start carousel; objects = idle 256 0 }

-- the tables, and then the sections of one cycle, which are a group
abbrev pub cycle_sent : List Bytes → Senders → List Bytes
cycle_sent cycle s = announcer_packets s.tables ++ packets_of_group s.objects cycle

abbrev pub after_cycle : List Bytes → Senders → Senders
after_cycle cycle s = record { tables = after_announcing s.tables; objects = past_group s.objects cycle }

-- so many cycles
abbrev pub cycles_sent : List Bytes → ℕ → Senders → List Bytes
cycles_sent cycle zero s = []
cycles_sent cycle (suc n) s = cycle_sent cycle s ++ cycles_sent cycle n (after_cycle cycle s)

abbrev pub after_cycles : List Bytes → ℕ → Senders → Senders
after_cycles cycle zero s = s
after_cycles cycle (suc n) s = after_cycles cycle n (after_cycle cycle s)

-- the sections of one cycle of generation 1, whose tree this is, under these weights
abbrev pub one_cycle : (carousel : ℕ) (weights : List ℕ) → Tree → List Bytes
one_cycle carousel weights t = sections (publication carousel weights 1 t)

-- the cycles that follow the first ones, so many of each
abbrev pub published_after : (carousel : ℕ) (weights : List ℕ) (first cycles : ℕ) → Tree → Bytes
published_after carousel weights first cycles t =
    concat (cycles_sent (one_cycle carousel weights t) cycles (after_cycles (one_cycle carousel weights t) first (senders_start carousel)))

-- all of them
abbrev pub published_psi : (carousel : ℕ) (weights : List ℕ) (cycles : ℕ) → Tree → Bytes
published_psi carousel weights cycles t = published_after carousel weights 0 cycles t
