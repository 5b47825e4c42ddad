-- A round as a walk over all lines.
use Rattle.std.specs.Prelude.{ℕ, List, [], nat_lt, if◌then◌else◌}
use Rattle.cycle_planner.specs.Weights.{weight}
use Rattle.cycle_planner.specs.Cycle.{Line, blocks_of}
use Rattle.cycle_planner.specs.declared.Item.{Item}

-- the blocks of a module in round r: all, or none
abbrev pub blocks_in_round : List ℕ → ℕ → Line → List Item
blocks_in_round weights r line = if nat_lt r (weight weights line.0) then blocks_of line else []
