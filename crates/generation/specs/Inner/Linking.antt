-- Objects in groups: those that stand in a folder, or that lie in a module, one after another.
use Rattle.std.specs.Prelude.{◌≡◌, ◌+◌, ◌==◌, ℕ, Bool, List, Option, Some, None}
use Rattle.std.specs.List.{filter}
use Rattle.std.specs.List.Sorted.{IsNonDecreasingBy}
use Rattle.generation.specs.declared.objects.Placed.{Placed}
use Rattle.generation.specs.declared.links.By.{By}
use Rattle.generation.specs.declared.links.By.TheVariants.{Folder, Module}

abbrev pub group_of_parent : Option ℕ → ℕ
group_of_parent (Some folder) = folder + 1
group_of_parent None = 0

-- the group that an object is in
abbrev pub group_by : By → Placed → ℕ
group_by Folder o = group_of_parent o.spot.parent
group_by Module o = o.«module»

abbrev pub is_of : By → ℕ → Placed → Bool
is_of by group o = group_by by o == group

-- the objects by group, those of each group in their order
pub record AreMembers (by : By) (objects members : List Placed) : Type 0 where
  pub rising : IsNonDecreasingBy (group_by by) members
  pub each : (group : ℕ) → filter (is_of by group) members ≡ filter (is_of by group) objects
