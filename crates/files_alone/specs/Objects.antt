-- The objects of a tree of files alone, their sizes, and the first limit that it passes: what they were before a folder could be
-- kept. They are here to be held beside the objects of today.
use Rattle.std.specs.Prelude.{ℕ, suc, ◌+◌, ◌-◌, Bool, false, List, [], ◌∷◌, ◌++◌, length, map, take, Option, Some, None, nat_lt, cond}
use Rattle.std.specs.List.{sum, sum_by, find, range_with_len}
use Rattle.oc_bytes.specs.Outcome.{cap_at_u64, cap_at_u32}
use Rattle.path_tree.specs.Paths.{Bytes, PathNames, same_name}
use Rattle.path_tree.specs.Files.{FileTree}
use Rattle.module_packer.specs.Placement.{modules_needed}
use Rattle.biop_object.specs.declared.written.TheConstants.{MOST_FOLDER_SIZE, FILE_FRONT, FOLDER_FRONT}
use Rattle.dsi_dii.specs.declared.TheConstants.{MOST_TOTAL_SIZE}
use Rattle.module_groups.specs.declared.TheConstants.{GREATEST_ID}
use Rattle.generation.specs.declared.limit.TheConstants.{MOST_OBJECTS}
use Rattle.generation.specs.Publication.{Passed, Objects, Folder, Total, Modules, binding_rest, or_else, over}

-- an object's path, and its bytes where it is a file
pub record Spot : Type 0 where
  pub path : PathNames
  pub content : Option Bytes

-- how many folders other than the root lie above both of two files
abbrev pub shared_folders : PathNames → PathNames → ℕ
shared_folders (m ∷ m' ∷ ms) (n ∷ ns) = cond (same_name m n) (suc (shared_folders (m' ∷ ms) ns)) 0
shared_folders _ _ = 0

-- the folder of the first names of a path
abbrev pub folder_of : PathNames → ℕ → Spot
folder_of p names = record { path = take names p; content = None }

-- the folders above a path, but for the root and for those that are shared with the file before it
abbrev pub folders_after : PathNames → PathNames → List Spot
folders_after before p = map (folder_of p) (range_with_len (shared_folders before p + 1) (length p - 1 - shared_folders before p))

-- by path: before each file the folders above it that weren't above the file before it
abbrev pub spots_after : PathNames → FileTree → List Spot
spots_after before [] = []
spots_after before (e ∷ es) = folders_after before e.0 ++ record { path = e.0; content = Some e.1 } ∷ spots_after e.0 es

abbrev pub gateway_spot : Spot
gateway_spot = record { path = []; content = None }

-- the gateway first
abbrev pub spots_of : FileTree → List Spot
spots_of t = gateway_spot ∷ spots_after [] t

-- the name of a path in the folder that lies right above it
abbrev pub child_name : PathNames → PathNames → Option Bytes
child_name [] (n ∷ []) = Some n
child_name (m ∷ ms) (n ∷ ns) = cond (same_name m n) (child_name ms ns) None
child_name _ _ = None

-- what an object's binding takes in a folder: nothing where it lies elsewhere
abbrev pub binding_size : PathNames → Spot → ℕ
binding_size p s = go (child_name p s.path) where
  go : Option Bytes → ℕ
  go (Some n) = length n + binding_rest s.content
  go None = 0

abbrev pub size_of : List Spot → Spot → ℕ
size_of spots s = go s.content where
  go : Option Bytes → ℕ
  go (Some b) = FILE_FRONT + length b
  go None = FOLDER_FRONT + sum_by (binding_size s.path) spots

abbrev pub sizes_of : FileTree → List ℕ
sizes_of t = map (size_of (spots_of t)) (spots_of t)

abbrev pub is_large_folder : List Spot → Spot → Bool
is_large_folder spots s = go s.content where
  go : Option Bytes → Bool
  go (Some b) = false
  go None = nat_lt MOST_FOLDER_SIZE (size_of spots s)

abbrev pub large_folder : Option Spot → Option Passed
large_folder (Some s) = Some (Folder s.path)
large_folder None = None

abbrev pub limit_of : FileTree → Option Passed
limit_of t =
    or_else (over (nat_lt MOST_OBJECTS (length (spots_of t))) (Objects (cap_at_u32 (length (spots_of t)))))
    (or_else (large_folder (find (is_large_folder (spots_of t)) (spots_of t)))
    (or_else (over (nat_lt MOST_TOTAL_SIZE (sum (sizes_of t))) (Total (cap_at_u64 (sum (sizes_of t)))))
    (over (nat_lt GREATEST_ID (modules_needed (sizes_of t))) (Modules (cap_at_u64 (modules_needed (sizes_of t)))))))
