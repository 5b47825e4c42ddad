-- The items of a cycle that are still to come.
use Rattle.std.specs.Prelude.{◌≡◌, ⊤, ℕ, ◌+◌, ◌-◌, ◌<◌, ◌≤◌, true, List, [], ◌++◌, length, map, drop, slice_index_or}
use Rattle.std.specs.List.{flat_map, range_with_len}
use Rattle.module_groups.specs.declared.TheConstants.{MOST_GROUPS}
use Rattle.cycle_planner.specs.Cycle.{Line, has_group, diis_from, round, greatest_weight, cycle_of}
use Rattle.cycle_planner.specs.Rounds.{blocks_in_round}
use Rattle.cycle_planner.specs.declared.Item.{Item}
use Rattle.cycle_planner.specs.declared.Item.TheVariants.{Block}
use Rattle.cycle_planner.specs.declared.place.Place.{Place}
use Rattle.cycle_planner.specs.declared.place.Place.TheVariants as place

-- a module's blocks from one on
abbrev pub blocks_from : Line → ℕ → List Item
blocks_from line b = map (λ k. Block line.0 k) (range_with_len b (line.1 - b))

-- the rounds from one on
abbrev pub rounds_from : List ℕ → List Line → ℕ → List Item
rounds_from weights lines r = flat_map (round weights lines) (range_with_len r (greatest_weight weights lines - r))

-- what a round sends of the lines from one on, and the later rounds
abbrev pub lines_from : List ℕ → List Line → (r line : ℕ) → List Item
lines_from weights lines r line = flat_map (blocks_in_round weights r) (drop line lines) ++ rounds_from weights lines (r + 1)

-- the line at a place among the lines
abbrev pub line_at : List Line → ℕ → Line
line_at lines i = slice_index_or lines i (0, 0)

-- a group with a DII
pub record IsListed (lines : List Line) (j : ℕ) : Type 0 where
  pub above : 1 ≤ j
  pub within : j ≤ MOST_GROUPS
  pub has : has_group lines j ≡ true

abbrev pub items_from : List ℕ → List Line → Place → List Item
items_from weights lines place.Start = cycle_of weights lines
items_from weights lines (place.Dii r j) = diis_from lines j ++ lines_from weights lines r 0
items_from weights lines (place.Block r i b) = blocks_from (line_at lines i) b ++ lines_from weights lines r (i + 1)
items_from weights lines place.End = []

-- a place has an item, but for the end
abbrev pub IsPlace : List ℕ → List Line → Place → Type 0
IsPlace weights lines (place.Dii r j) = (r < greatest_weight weights lines) × IsListed lines j
IsPlace weights lines (place.Block r i b) = (r < greatest_weight weights lines) × (i < length lines) × (b < (line_at lines i).1)
IsPlace weights lines _ = ⊤
