-- A placement that leaves each object in the module where it was, as far as there is room. It is this project's own rule.
use Rattle.std.specs.Prelude.{◌≡◌, ℕ, zero, suc, ◌+◌, ◌<◌, ◌≤◌, not, ◌&&◌, List, [], ◌∷◌, ◌++◌, length, map, take, slice_get, ◌⊎◌, Option, Some, None, nat_le, ◌==◌, Bool, false, if◌then◌else◌}
use Rattle.std.specs.Option.{unwrap_or, option_and_then}
use Rattle.std.specs.List.{All, list_all, list_any, sum_by, count_by}
use Rattle.module_packer.specs.declared.packing.TheConstants.{ROOM}
use Rattle.module_packer.specs.Placement.{fresh, modules_needed, sum_in, IsPlacement}

-- an object's size, and the module in which it was
abbrev pub Placed : Type 0
Placed = ℕ × Option ℕ

abbrev pub sizes_in : List Placed → List ℕ
sizes_in objects = map (λ o. o.0) objects

-- the objects that are placed so far, each as its module and its size
abbrev pub Filled : Type 0
Filled = List (ℕ × ℕ)

abbrev pub in_use : Filled → ℕ → Bool
in_use filled m = list_any (λ e. e.0 == m) filled

abbrev pub has_room : Filled → ℕ → ℕ → Bool
has_room filled size m = nat_le (sum_in filled m + size) ROOM

-- a small object stays where there is room for it, a large one where nothing is
abbrev pub stays : Filled → ℕ → ℕ → Bool
stays filled size m = if nat_le size ROOM then has_room filled size m else not (in_use filled m)

abbrev pub if_stays : Filled → ℕ → Option ℕ → Option ℕ
if_stays filled size None = None
if_stays filled size (Some m) = if stays filled size m then Some m else None

abbrev pub filled_with : Filled → Option ℕ → ℕ → Filled
filled_with filled None size = filled
filled_with filled (Some m) size = filled ++ (m, size) ∷ []

-- each object with its old module, if it stays in it; the objects are taken in order
abbrev pub first_pass : Filled → List Placed → List Placed
first_pass filled [] = []
first_pass filled (o ∷ os) =
    (o.0, if_stays filled o.0 o.1) ∷ first_pass (filled_with filled (if_stays filled o.0 o.1) o.0) os

-- the objects that are placed then
abbrev pub first_filled : Filled → List Placed → Filled
first_filled filled [] = filled
first_filled filled (o ∷ os) = first_filled (filled_with filled (if_stays filled o.0 o.1) o.0) os

-- the least number from m on, among so many, that passes the test; the later ones aren't tested where m passes
unfoldable pub least_with : (ℕ → Bool) → ℕ → ℕ → Option ℕ
least_with test zero m = None
least_with test (suc n) m = let later : Option ℕ = least_with test n (m + 1) in if test m then Some m else later

-- the least module in use that has room for a small object
abbrev pub shared_by : ℕ → Filled → ℕ → Option ℕ
shared_by limit filled size =
    if nat_le size ROOM then least_with (λ m. in_use filled m && has_room filled size m) limit 1 else None

-- that module, or the least number that isn't in use; one above the limit where each up to it is
abbrev pub or_new : ℕ → Filled → Option ℕ → ℕ
or_new limit filled (Some m) = m
or_new limit filled None = unwrap_or (least_with (λ m. not (in_use filled m)) limit 1) (limit + 1)

-- where an object goes that doesn't stay
abbrev pub moved_to : ℕ → Filled → ℕ → ℕ
moved_to limit filled size = or_new limit filled (shared_by limit filled size)

-- where an object is, with the module in which it stays if it does; and what is placed after it
abbrev pub settled_in : ℕ → Filled → ℕ → Option ℕ → ℕ
settled_in limit filled size (Some m) = m
settled_in limit filled size None = moved_to limit filled size

abbrev pub filled_after : ℕ → Filled → ℕ → Option ℕ → Filled
filled_after limit filled size (Some m) = filled
filled_after limit filled size None = filled ++ (moved_to limit filled size, size) ∷ []

-- where each object is; those that don't stay are taken in order, after all that stay
abbrev pub second_pass : ℕ → Filled → List Placed → List ℕ
second_pass limit filled [] = []
second_pass limit filled (o ∷ os) = settled_in limit filled o.0 o.1 ∷ second_pass limit (filled_after limit filled o.0 o.1) os

-- the first object is in module 1, and then come the two passes over the others
abbrev pub two_passes : ℕ → List Placed → List ℕ
two_passes limit [] = []
two_passes limit (o ∷ os) = 1 ∷ second_pass limit (first_filled ((1, o.0) ∷ []) os) (first_pass ((1, o.0) ∷ []) os)

abbrev pub within : ℕ → List ℕ → Bool
within limit ms = list_all (λ m. nat_le m limit) ms

-- the module of each object: what the two passes give, or the fresh placement where a number of theirs passes the limit
unfoldable pub kept_modules : ℕ → List Placed → List ℕ
kept_modules limit objects = let ms : List ℕ = two_passes limit objects in if within limit ms then ms else fresh (sizes_in objects)

-- each old module lies within the limit
abbrev pub WereWithin : ℕ → List Placed → Type 0
WereWithin limit objects = All (λ o. (m : ℕ) → o.1 ≡ Some m → (1 ≤ m) × (m ≤ limit)) objects

-- what is asked of objects: there is one, the first one was in module 1 or is new, and each old module lies within the limit
pub record AreObjects (limit : ℕ) (objects : List Placed) : Type 0 where
  pub some : 0 < length objects
  pub few : modules_needed (sizes_in objects) ≤ limit
  pub first : (m : ℕ) → option_and_then (λ o. o.1) (slice_get objects 0) ≡ Some m → m ≡ 1
  pub old : WereWithin limit objects

abbrev pub KeptIsAPlacement : Type 0
KeptIsAPlacement = (limit : ℕ) (objects : List Placed) → AreObjects limit objects → IsPlacement limit (sizes_in objects) (kept_modules limit objects)

-- ---- who stays

-- the objects with their old modules, where the first one counts as one of module 1
abbrev pub from_one : List Placed → List Placed
from_one [] = []
from_one (o ∷ os) = (o.0, Some 1) ∷ os

abbrev pub is_module : ℕ → Option ℕ → Bool
is_module m (Some n) = n == m
is_module m None = false

-- the bytes of the objects that were in a module
abbrev pub bytes_of : ℕ → List Placed → ℕ
bytes_of m objects = sum_by (λ o. if is_module m o.1 then o.0 else 0) objects

-- an object of this size has room in a module after the objects before it that were there, or it is the first of these
abbrev pub HasRoomAfter : ℕ → List Placed → ℕ → Type 0
HasRoomAfter m before size = (bytes_of m before + size ≤ ROOM) ⊎ (count_by (λ o. is_module m o.1) before ≡ 0)

-- Unless the whole placement is the fresh one, an object stays in its old module where the objects before it that were
-- there leave room for it.
abbrev pub ObjectsStay : Type 0
ObjectsStay = (limit : ℕ) (objects : List Placed) → (kept_modules limit objects ≡ fresh (sizes_in objects))
    ⊎ ((k m : ℕ) (o : Placed) → slice_get (from_one objects) k ≡ Some o → o.1 ≡ Some m → HasRoomAfter m (take k (from_one objects)) o.0 → slice_get (kept_modules limit objects) k ≡ Some m)
