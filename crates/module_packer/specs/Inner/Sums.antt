-- What is known of the modules, module by module.
use Rattle.std.specs.Prelude.{◌≡◌, ℕ, ◌+◌, ◌<◌, List, length, Option, Some, None, nat_le, Bool, false, if◌then◌else◌, slice_index_or}
use Rattle.std.specs.List.{position}
use Rattle.std.specs.Option.{unwrap_or, option_map, is_none}
use Rattle.module_packer.specs.declared.packing.TheConstants.{ROOM}
use Rattle.module_packer.specs.Placement.{sum_in}
use Rattle.module_packer.specs.Kept.{Filled, in_use}

-- the sum of the sizes in a module, where it is in use
abbrev pub known_sum : Filled → ℕ → Option ℕ
known_sum filled m = if in_use filled m then Some (sum_in filled m) else None

-- the sums, from module 1 on, are those of the objects that are placed
pub record Tells (limit : ℕ) (sums : List (Option ℕ)) (filled : Filled) : Type 0 where
  pub all : length sums ≡ limit
  pub each : (k : ℕ) → k < limit → slice_index_or sums k None ≡ known_sum filled (k + 1)

abbrev pub sum_at : List (Option ℕ) → ℕ → ℕ
sum_at sums k = unwrap_or (slice_index_or sums k None) 0

-- whether an object stays in a module that has this in it
abbrev pub stays_by : ℕ → Option ℕ → Bool
stays_by size sum = if nat_le size ROOM then nat_le (unwrap_or sum 0 + size) ROOM else is_none sum

-- whether a module that has this in it is in use and takes so many bytes more
abbrev pub takes_more : ℕ → Option ℕ → Bool
takes_more size None = false
takes_more size (Some sum) = nat_le (sum + size) ROOM

-- the number of the module at a place
abbrev pub number_at : Option ℕ → Option ℕ
number_at place = option_map (λ k. k + 1) place

abbrev pub shared_of : ℕ → List (Option ℕ) → Option ℕ
shared_of size sums = if nat_le size ROOM then number_at (position (takes_more size) sums) else None

abbrev pub or_unused : Option ℕ → List (Option ℕ) → Option ℕ
or_unused (Some m) sums = Some m
or_unused None sums = number_at (position is_none sums)

-- the module for an object that doesn't stay, if there is one
abbrev pub moved_by : ℕ → List (Option ℕ) → Option ℕ
moved_by size sums = or_unused (shared_of size sums) sums
