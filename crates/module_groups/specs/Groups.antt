-- The groups of module ids. One DII lists the modules of one group. The groups are this project's own rule.
use Rattle.std.specs.Prelude.{◌≡◌, ℕ, ◌+◌, ◌-◌, ◌*◌, ◌/◌, ◌<◌, ◌≤◌, ◌↔◌}
use Rattle.module_groups.specs.declared.TheConstants.{GROUP_SIZE, MOST_GROUPS, GREATEST_ID}

-- the first ids, as many as a DII has room for, are of group 1, as many after them of group 2, and so on
abbrev pub group_of : ℕ → ℕ
group_of m = 1 + (m - 1) / GROUP_SIZE

-- the id is one of group j
pub record IsIdOf (j m : ℕ) : Type 0 where
  pub above : (j - 1) * GROUP_SIZE < m
  pub within : m ≤ j * GROUP_SIZE

-- the ids of a group stand together, and those up to the greatest are of the first groups
pub record GroupsAreOfTheIds : Type 0 where
  pub ids : (j m : ℕ) → 1 ≤ j → 1 ≤ m → ((group_of m ≡ j) ↔ IsIdOf j m)
  pub groups : (m : ℕ) → 1 ≤ m → ((m ≤ GREATEST_ID) ↔ (group_of m ≤ MOST_GROUPS))
