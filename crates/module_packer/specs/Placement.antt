-- Which module each object goes to.
use Rattle.std.specs.Prelude.{◌≡◌, ℕ, ◌+◌, ◌<◌, ◌≤◌, max, Bool, false, List, [], ◌∷◌, length, slice_get, Option, Some, None, nat_le, nat_lt, ◌==◌, if◌then◌else◌}
use Rattle.std.specs.List.{All, fold, sum_by, count_by, zip}
use Rattle.module_packer.specs.declared.packing.TheConstants.{ROOM}
use Rattle.module_packer.specs.declared.packing.Shared.{Shared}
use Rattle.module_packer.specs.declared.packing.Packing.{Packing}

-- ---- fresh placement, from the modules opened so far and the one of them that takes small objects

abbrev pub none_opened : Packing
none_opened = record { count = 0; shared = None }

abbrev pub fits_shared : Option Shared → ℕ → Bool
fits_shared None size = false
fits_shared (Some o) size = nat_le (o.sum + size) ROOM

abbrev pub shared_number : Option Shared → ℕ
shared_number None = 0
shared_number (Some o) = o.number

abbrev pub shared_sum : Option Shared → ℕ
shared_sum None = 0
shared_sum (Some o) = o.sum

-- the module of one more object, and what is open after it
abbrev pub place_next : Packing → ℕ → ℕ × Packing
place_next s size =
    if nat_lt ROOM size then (s.count + 1, record s { count = s.count + 1 })
    else (if fits_shared s.shared size
    then (shared_number s.shared, record s { shared = Some (record { number = shared_number s.shared; sum = shared_sum s.shared + size }) })
    else (s.count + 1, record { count = s.count + 1; shared = Some (record { number = s.count + 1; sum = size }) }))

abbrev pub fresh_from : Packing → List ℕ → List ℕ
fresh_from s [] = []
fresh_from s (size ∷ sizes) = (place_next s size).0 ∷ fresh_from (place_next s size).1 sizes

abbrev pub fresh : List ℕ → List ℕ
fresh sizes = fresh_from none_opened sizes

-- how many modules the fresh placement opens: its greatest number
abbrev pub modules_needed : List ℕ → ℕ
modules_needed sizes = fold max 0 (fresh sizes)

-- ---- what every placement has

-- the sizes of the objects that are placed in a module, where each has its module beside it
abbrev pub sum_in : List (ℕ × ℕ) → ℕ → ℕ
sum_in filled m = sum_by (λ e. if e.0 == m then e.1 else 0) filled

-- each object has a module from 1 to the limit, the first one module 1, and no module of more than one object is overfull
pub record IsPlacement (limit : ℕ) (sizes modules : List ℕ) : Type 0 where
  pub each : length modules ≡ length sizes
  pub numbers : All (λ m. (1 ≤ m) × (m ≤ limit)) modules
  pub first : slice_get modules 0 ≡ Some 1
  pub sums : (m : ℕ) → 1 < count_by (λ n. n == m) modules → sum_in (zip modules sizes) m ≤ ROOM

abbrev pub FreshIsAPlacement : Type 0
FreshIsAPlacement = (limit : ℕ) (sizes : List ℕ) → 0 < length sizes → modules_needed sizes ≤ limit → IsPlacement limit sizes (fresh sizes)
