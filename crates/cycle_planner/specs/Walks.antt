-- A walk over a cycle, and what is still to come of it.
use Rattle.std.specs.Prelude.{◌≡◌, ℕ, List}
use Rattle.cycle_planner.specs.Cycle.{Line, AreLines, greatest_weight}
use Rattle.cycle_planner.specs.Places.{IsPlace, items_from}
use Rattle.cycle_planner.specs.declared.Item.{Item}
use Rattle.cycle_planner.specs.declared.walk.Walk.{Walk}

-- the items that are still to come
abbrev pub left_of : List ℕ → List Line → Walk → List Item
left_of weights lines walk = items_from weights lines walk.place

-- lines that have a cycle, the number of its rounds, and a place in it
pub record IsWalk (weights : List ℕ) (lines : List Line) (walk : Walk) : Type 0 where
  pub are : AreLines lines
  pub number : walk.rounds ≡ greatest_weight weights lines
  pub stands : IsPlace weights lines walk.place
