-- How trees of files alone became modules, one generation after another: what it was before a folder could be kept. What
-- doesn't speak of objects is as it was, and is cited.
use Rattle.std.specs.Prelude.{ℕ, ◌+◌, Bool, ◌&&◌, List, [], ◌∷◌, length, map, Option, Some, None, ◌==◌, if◌then◌else◌}
use Rattle.std.specs.List.{flat_map, filter, filter_map, find, fold, list_any, range_with_len, zip}
use Rattle.path_tree.specs.Paths.{Bytes, PathNames, same_path}
use Rattle.path_tree.specs.Files.{FileTree, of_files}
use Rattle.ior_tap.specs.declared.Location.{Location}
use Rattle.biop_object.specs.Names.{Layout}
use Rattle.biop_object.specs.Objects.{file_spelling, folder_spelling}
use Rattle.biop_object.specs.declared.written.Written.{Written}
use Rattle.module_packer.specs.Kept.{kept_modules}
use Rattle.cycle_planner.specs.declared.Item.{Item}
use Rattle.generation.specs.Layouts.{same_kind, free_keys, fill_keys, taken_in, key_bytes, bound_of, folder_kind_of, greatest, counts_after}
use Rattle.generation.specs.Layouts as today
use Rattle.files_alone.specs.Objects.{Spot, gateway_spot, spots_of, sizes_of, child_name}
use Rattle.module_groups.specs.declared.TheConstants.{GREATEST_ID}

-- an object with its key and its module
pub record Placed : Type 0 where
  pub spot : Spot
  pub key : ℕ
  pub module_id : ℕ

-- one generation: its tree, its objects, its modules, and how often each module has changed
pub record GenerationState : Type 0 where
  pub carousel : ℕ
  pub number : ℕ
  pub tree : FileTree
  pub objects : List Placed
  pub layout : Layout
  pub counts : List ℕ

-- the same path and kind
abbrev pub is_same_spot : Spot → Spot → Bool
is_same_spot a b = same_path a.path b.path && same_kind a.content b.content

abbrev pub placed_at : List Placed → Spot → Option Placed
placed_at objects s = find (λ o. is_same_spot o.spot s) objects

abbrev pub key_in : Option Placed → Option ℕ
key_in (Some o) = Some o.key
key_in None = None

abbrev pub module_of : Option Placed → Option ℕ
module_of (Some o) = Some o.module_id
module_of None = None

-- An object whose path and kind were there before keeps its key; the others take the least numbers from 2 on that no
-- object has. As many numbers are looked at as there are objects, so that one is free for each.
abbrev pub old_keys : List Placed → List Spot → List (Option ℕ)
old_keys old spots = map (λ s. key_in (placed_at old s)) spots

abbrev pub keys_of : List Placed → List Spot → List ℕ
keys_of old spots = fill_keys (old_keys old spots) (free_keys (taken_in (old_keys old spots)) (length spots))

abbrev pub placed_all : List Spot → List ℕ → List ℕ → List Placed
placed_all (s ∷ spots) (k ∷ keys) (m ∷ ms) = record { spot = s; key = k; module_id = m } ∷ placed_all spots keys ms
placed_all _ _ _ = []

-- where an object lies
abbrev pub location_of : ℕ → Placed → Location
location_of carousel o = record { carousel = carousel; «module» = o.module_id; key = key_bytes o.key }

-- an object's binding in a folder, where it lies right in it
abbrev pub written_in : ℕ → PathNames → Placed → Option Written
written_in carousel p o = go (child_name p o.spot.path) where
  go : Option Bytes → Option Written
  go (Some n) = Some (record { name = n; bound = bound_of o.spot.content; location = location_of carousel o })
  go None = None

-- the bindings of a folder, in name order, since objects stand by path
abbrev pub entries_of : ℕ → List Placed → PathNames → List Written
entries_of carousel objects p = filter_map (written_in carousel p) objects

abbrev pub object_bytes : ℕ → List Placed → Placed → Bytes
object_bytes carousel objects o = go o.spot.content where
  go : Option Bytes → Bytes
  go (Some b) = file_spelling (key_bytes o.key) b
  go None = folder_spelling (folder_kind_of o.spot.path) (key_bytes o.key) (entries_of carousel objects o.spot.path)

abbrev pub is_in : ℕ → Placed → Bool
is_in m o = o.module_id == m

-- a module's bytes are those of its objects, in object order
abbrev pub module_bytes : ℕ → List Placed → ℕ → Bytes
module_bytes carousel objects m = flat_map (object_bytes carousel objects) (filter (is_in m) objects)

-- a module where it has an object
abbrev pub module_if_used : ℕ → List Placed → ℕ → Option (ℕ × Bytes)
module_if_used carousel objects m = if list_any (is_in m) objects then Some (m, module_bytes carousel objects m) else None

-- the modules by rising id
abbrev pub layout_of : ℕ → List Placed → Layout
layout_of carousel objects = filter_map (module_if_used carousel objects) (range_with_len 1 (greatest (map (λ o. o.module_id) objects)))

-- the modules of the objects that were there before under the same path and kind
abbrev pub old_modules : List Placed → List Spot → List (Option ℕ)
old_modules old spots = map (λ s. module_of (placed_at old s)) spots

-- the module of each object: the one where it was, as far as there is room
abbrev pub modules_for : List Placed → FileTree → List ℕ
modules_for old t = kept_modules GREATEST_ID (zip (sizes_of t) (old_modules old (spots_of t)))

abbrev pub make_generation : ℕ → ℕ → FileTree → List Placed → Layout → List ℕ → GenerationState
make_generation carousel number t old before counts =
    let spots = spots_of t in
    let objects = placed_all spots (keys_of old spots) (modules_for old t) in
    let layout = layout_of carousel objects in
    record { carousel = carousel; number = number; tree = t; objects = objects; layout = layout; counts = counts_after before layout counts }

abbrev pub gateway_before : List Placed
gateway_before = record { spot = gateway_spot; key = 1; module_id = 1 } ∷ []

-- generation 0 has the empty tree, and its counts are 0
abbrev pub first_of : ℕ → GenerationState
first_of carousel = record (make_generation carousel 0 [] gateway_before [] []) { counts = [] }

abbrev pub next_of : GenerationState → FileTree → GenerationState
next_of g t = make_generation g.carousel (g.number + 1) t g.objects g.layout g.counts

-- the generation after these trees
abbrev pub generation_of : ℕ → List FileTree → GenerationState
generation_of carousel trees = fold next_of (first_of carousel) trees

-- ---- what a generation sends, by rules that speak of its modules and of no object

abbrev pub modules_in : GenerationState → today.GenerationState
modules_in g = record {
  carousel = g.carousel;
  number = g.number;
  tree = of_files g.tree;
  objects = [];
  layout = g.layout;
  counts = g.counts;
}

-- the section of an item
abbrev pub section_of : GenerationState → Item → Bytes
section_of g item = today.section_of (modules_in g) item

abbrev pub items_of : GenerationState → List Item
items_of g = today.items_of (modules_in g)
