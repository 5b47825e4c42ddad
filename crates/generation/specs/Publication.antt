-- The objects of a tree, their sizes, and the first limit that a tree passes. These are this project's own rules,
-- but for the sizes, which follow from the form of the objects (ISO/IEC 13818-6, in the profile of ETSI TR 101 202).
use Rattle.std.specs.Prelude.{◌≡◌, ℕ, suc, ◌+◌, ◌==◌, Bool, true, false, List, [], ◌∷◌, ◌++◌, length, map, Option, Some, None, nat_lt, if◌then◌else◌}
use Rattle.std.specs.List.{All, sum, sum_by, find}
use Rattle.std.specs.declared.cmp.Ordering.TheVariants.{Less}
use Rattle.oc_bytes.specs.Outcome.{cap_at_u64, cap_at_u32}
use Rattle.path_tree.specs.Paths.{Bytes, PathNames, path_cmp}
use Rattle.path_tree.specs.Trees.{Tree}
use Rattle.path_tree.specs.Nestings.{Nesting, Empty, FileThen, FolderThen, nested}
use Rattle.module_packer.specs.Placement.{modules_needed}
use Rattle.biop_object.specs.declared.written.TheConstants.{MOST_FOLDER_SIZE, FILE_FRONT, FOLDER_FRONT, FILE_BINDING, FOLDER_BINDING}
use Rattle.dsi_dii.specs.declared.TheConstants.{MOST_TOTAL_SIZE}
use Rattle.module_groups.specs.declared.TheConstants.{GREATEST_ID}
use Rattle.generation.specs.declared.limit.TheConstants.{MOST_OBJECTS}

-- An object: its path, the last name of that, its bytes where it is a file, its number among the objects, and the number of
-- the folder that it stands in. The gateway stands in none.
pub record Spot : Type 0 where
  pub path : PathNames
  pub name : Bytes
  pub content : Option Bytes
  pub number : ℕ
  pub parent : Option ℕ

abbrev pub gateway_spot : Spot
gateway_spot = record { path = []; name = []; content = None; number = 0; parent = None }

-- how many objects stand in a folder, at any depth
abbrev pub count_in : Nesting → ℕ
count_in Empty = 0
count_in (FileThen n b rest) = suc (count_in rest)
count_in (FolderThen n made inside rest) = suc (count_in inside + count_in rest)

-- an object in a folder of a name, seen from the folder above
abbrev pub below : Bytes → Spot → Spot
below n s = record s { path = n ∷ s.path }

-- what stands in the folder of number `parent`, by path, where its first object has number `next`: each folder before what
-- stands in it
abbrev pub spots_in : ℕ → ℕ → Nesting → List Spot
spots_in parent next Empty = []
spots_in parent next (FileThen n b rest) = record { path = n ∷ []; name = n; content = Some b; number = next; parent = Some parent } ∷ spots_in parent (suc next) rest
spots_in parent next (FolderThen n made inside rest) =
    record { path = n ∷ []; name = n; content = None; number = next; parent = Some parent }
    ∷ (map (below n) (spots_in next (suc next) inside) ++ spots_in parent (suc (next + count_in inside)) rest)

-- the gateway first
abbrev pub spots_of : Tree → List Spot
spots_of t = gateway_spot ∷ spots_in 0 1 (nested t)

-- each object stands before those after it, in the order of paths
abbrev pub AreRising : List Spot → Type 0
AreRising [] = Unit {0}
AreRising (s ∷ ss) = All (λ r. path_cmp s.path r.path ≡ Less) ss × AreRising ss

-- the object stands right in the folder of a number
abbrev pub is_child : ℕ → Spot → Bool
is_child folder s = go s.parent where
  go : Option ℕ → Bool
  go (Some parent) = parent == folder
  go None = false

-- what a binding takes beside the name
abbrev pub binding_rest : Option Bytes → ℕ
binding_rest (Some b) = FILE_BINDING
binding_rest None = FOLDER_BINDING

-- what an object's binding takes in a folder: nothing where it lies elsewhere
abbrev pub binding_size : ℕ → Spot → ℕ
binding_size folder s = if is_child folder s then length s.name + binding_rest s.content else 0

abbrev pub size_of : List Spot → Spot → ℕ
size_of spots s = go s.content where
  go : Option Bytes → ℕ
  go (Some b) = FILE_FRONT + length b
  go None = FOLDER_FRONT + sum_by (binding_size s.number) spots

abbrev pub sizes_of : Tree → List ℕ
sizes_of t = map (size_of (spots_of t)) (spots_of t)

-- the first limit that the tree passes; a number stays at its type's greatest value
pub data Passed : Type 0 where
  Objects : ℕ → Passed
  Folder : PathNames → Passed
  Total : ℕ → Passed
  Modules : ℕ → Passed

abbrev pub is_large_folder : List Spot → Spot → Bool
is_large_folder spots s = go s.content where
  go : Option Bytes → Bool
  go (Some b) = false
  go None = nat_lt MOST_FOLDER_SIZE (size_of spots s)

abbrev pub or_else : Option Passed → Option Passed → Option Passed
or_else (Some p) rest = Some p
or_else None rest = rest

abbrev pub large_folder : Option Spot → Option Passed
large_folder (Some s) = Some (Folder s.path)
large_folder None = None

abbrev pub over : Bool → Passed → Option Passed
over true p = Some p
over false p = None

abbrev pub limit_of : Tree → Option Passed
limit_of t =
    or_else (over (nat_lt MOST_OBJECTS (length (spots_of t))) (Objects (cap_at_u32 (length (spots_of t)))))
    (or_else (large_folder (find (is_large_folder (spots_of t)) (spots_of t)))
    (or_else (over (nat_lt MOST_TOTAL_SIZE (sum (sizes_of t))) (Total (cap_at_u64 (sum (sizes_of t)))))
    (over (nat_lt GREATEST_ID (modules_needed (sizes_of t))) (Modules (cap_at_u64 (modules_needed (sizes_of t)))))))
