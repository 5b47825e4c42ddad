-- The ids of a group, for those who use this crate too.
use Rattle.std.proofs.Common.{◌≡◌, ℕ, ◌≤◌, arith}
use Rattle.module_groups.specs.Groups.{group_of, IsIdOf, GroupsAreOfTheIds}

pub group_is_one_at_least : (m : ℕ) → 1 ≤ group_of m
group_is_one_at_least m = omega arith

-- the group of an id, and the ids of a group
pub is_id_of : (m : ℕ) → 1 ≤ m → IsIdOf (group_of m) m
is_id_of m low = record { above = omega (arith, low); within = omega (arith, low) }

pub id_of_group : (j m : ℕ) → 1 ≤ j → 1 ≤ m → group_of m ≡ j → IsIdOf j m
id_of_group j m one low e = record { above = omega (arith, low, e); within = omega (arith, low, e) }

pub group_of_id : (j m : ℕ) → 1 ≤ j → 1 ≤ m → IsIdOf j m → group_of m ≡ j
group_of_id j m one low is = omega (arith, one, low, is.above, is.within)

-- a later id is of no earlier group
pub groups_rise : (m n : ℕ) → m ≤ n → group_of m ≤ group_of n
groups_rise m n le = omega (arith, le)

pub groups_of_ids : GroupsAreOfTheIds
groups_of_ids = record {
  ids = λ j m one low. (id_of_group j m one low, group_of_id j m one low);
  groups = λ m low. (λ le. omega (arith, low, le), λ le. omega (arith, low, le));
}
