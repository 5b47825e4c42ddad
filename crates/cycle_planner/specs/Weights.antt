-- Weights of modules. They are this project's own.
use Rattle.std.specs.Prelude.{◌≡◌, ℕ, ◌-◌, ◌≤◌, List, length, slice_index_or}
use Rattle.std.specs.List.{All}
use Rattle.module_groups.specs.declared.TheConstants.{GREATEST_ID}
use Rattle.cycle_planner.specs.declared.weigh.TheConstants.{GREATEST_WEIGHT}

-- the weight of a module, by the list of weights from module 1 on; a module that the list doesn't have weighs 1
abbrev pub weight : List ℕ → ℕ → ℕ
weight weights m = slice_index_or weights (m - 1) 1

-- a weight from 1 to the greatest for each of the ids
pub record AreWeights (weights : List ℕ) : Type 0 where
  pub number : length weights ≡ GREATEST_ID
  pub range : All (λ w. (1 ≤ w) × (w ≤ GREATEST_WEIGHT)) weights
