-- How a tree becomes modules, one generation after another.
use Rattle.std.specs.Prelude.{ℕ, ◌+◌, ◌-◌, ◌%◌, Bool, true, false, not, ◌&&◌, List, [], ◌∷◌, ◌++◌, length, map, get_or, Option, Some, None, ◌==◌, min, max, if◌then◌else◌}
use Rattle.std.specs.Option.{unwrap_or}
use Rattle.std.specs.List.{flat_map, filter, filter_map, find, fold, list_any, range_with_len, zip, All, Contains}
use Rattle.oc_bytes.specs.Numbers.{four_bytes}
use Rattle.path_tree.specs.Paths.{Bytes, PathNames, same_path, same_name}
use Rattle.path_tree.specs.Trees.{Tree}
use Rattle.ior_tap.specs.declared.Location.{Location}
use Rattle.biop_object.specs.declared.reading.TheConstants.{GATEWAY}
use Rattle.biop_object.specs.Names.{Layout, module_in}
use Rattle.biop_object.specs.Spelled.{Spelled, AFile, AFolder, spelled_bytes}
use Rattle.biop_object.specs.declared.written.Written.{Written}
use Rattle.biop_object.specs.declared.written.Bound.{Bound}
use Rattle.biop_object.specs.declared.written.Bound.TheVariants as bounds
use Rattle.biop_object.specs.declared.written.FolderKind.{FolderKind}
use Rattle.biop_object.specs.declared.written.FolderKind.TheVariants.{Directory, Gateway}
use Rattle.ddb_block.specs.Blocks as blocks
use Rattle.dsi_dii.specs.Controls as controls
use Rattle.dsi_dii.specs.declared.ModuleLine.{ModuleLine}
use Rattle.dsmcc_section.specs.Sections as sections
use Rattle.dsmcc_section.specs.declared.Table.TheVariants as tables
use Rattle.module_packer.specs.Kept.{kept_modules}
use Rattle.cycle_planner.specs.Cycle.{Line, diis_of, blocks_of, cycle_of}
use Rattle.cycle_planner.specs.declared.Item.{Item}
use Rattle.cycle_planner.specs.declared.Item.TheVariants.{Dsi, Dii, Block}
use Rattle.generation.specs.Groups.{group_in, dii_transaction}
use Rattle.generation.specs.Publication.{Spot, gateway_spot, spots_of, sizes_of, is_child}
use Rattle.carousel_profile.specs.declared.TheConstants.{BLOCK_SIZE, DSI_TRANSACTION}
use Rattle.module_groups.specs.declared.TheConstants.{GREATEST_ID}

-- an object with its key and its module
pub record Placed : Type 0 where
  pub spot : Spot
  pub key : ℕ
  pub module_id : ℕ

-- one generation: its tree, its objects, its modules, and how often the module of each id has changed
pub record GenerationState : Type 0 where
  pub carousel : ℕ
  pub number : ℕ
  pub tree : Tree
  pub objects : List Placed
  pub layout : Layout
  pub counts : List ℕ

abbrev pub same_kind : Option Bytes → Option Bytes → Bool
same_kind (Some a) (Some b) = true
same_kind None None = true
same_kind _ _ = false

-- the same path and kind
abbrev pub is_same_spot : Spot → Spot → Bool
is_same_spot a b = same_path a.path b.path && same_kind a.content b.content

abbrev pub placed_at : List Placed → Spot → Option Placed
placed_at objects s = find (λ o. is_same_spot o.spot s) objects

abbrev pub key_in : Option Placed → Option ℕ
key_in (Some o) = Some o.key
key_in None = None

abbrev pub module_of : Option Placed → Option ℕ
module_of (Some o) = Some o.module_id
module_of None = None

-- the numbers from 2 on that aren't taken, as many as are looked at
abbrev pub free_keys : List ℕ → ℕ → List ℕ
free_keys taken count = filter (λ k. not (list_any (λ j. j == k) taken)) (range_with_len 2 count)

-- each key, with the free ones in order for those that have none
abbrev pub fill_keys : List (Option ℕ) → List ℕ → List ℕ
fill_keys (Some k ∷ keys) free = k ∷ fill_keys keys free
fill_keys (None ∷ keys) (k ∷ free) = k ∷ fill_keys keys free
fill_keys _ _ = []

abbrev pub taken_in : List (Option ℕ) → List ℕ
taken_in keys = filter_map (λ k. k) keys

-- An object whose path and kind were there before keeps its key; the others take the least numbers from 2 on that no
-- object has. As many numbers are looked at as there are objects, so that one is free for each.
abbrev pub old_keys : List Placed → List Spot → List (Option ℕ)
old_keys old spots = map (λ s. key_in (placed_at old s)) spots

abbrev pub keys_of : List Placed → List Spot → List ℕ
keys_of old spots = fill_keys (old_keys old spots) (free_keys (taken_in (old_keys old spots)) (length spots))

abbrev pub placed_all : List Spot → List ℕ → List ℕ → List Placed
placed_all (s ∷ spots) (k ∷ keys) (m ∷ ms) = record { spot = s; key = k; module_id = m } ∷ placed_all spots keys ms
placed_all _ _ _ = []

abbrev pub key_bytes : ℕ → Bytes
key_bytes k = four_bytes k

-- where an object lies
abbrev pub location_of : ℕ → Placed → Location
location_of carousel o = record { carousel = carousel; «module» = o.module_id; key = key_bytes o.key }

abbrev pub bound_of : Option Bytes → Bound
bound_of (Some b) = bounds.File (length b)
bound_of None = bounds.Folder

-- an object's binding in a folder, where it lies right in it
abbrev pub written_in : ℕ → ℕ → Placed → Option Written
written_in carousel folder o =
    if is_child folder o.spot then Some (record { name = o.spot.name; bound = bound_of o.spot.content; location = location_of carousel o }) else None

-- the bindings of the folder of a number, in name order, since objects stand by path
abbrev pub entries_of : ℕ → List Placed → ℕ → List Written
entries_of carousel objects folder = filter_map (written_in carousel folder) objects

abbrev pub folder_kind_of : PathNames → FolderKind
folder_kind_of [] = Gateway
folder_kind_of (n ∷ ns) = Directory

-- an object as it is to be written
abbrev pub spelled : ℕ → List Placed → Placed → Spelled
spelled carousel objects o = go o.spot.content where
  go : Option Bytes → Spelled
  go (Some b) = AFile (key_bytes o.key) b
  go None = AFolder (folder_kind_of o.spot.path) (key_bytes o.key) (entries_of carousel objects o.spot.number)

abbrev pub object_bytes : ℕ → List Placed → Placed → Bytes
object_bytes carousel objects o = spelled_bytes (spelled carousel objects o)

abbrev pub greatest : List ℕ → ℕ
greatest ns = fold max 0 ns

abbrev pub is_in : ℕ → Placed → Bool
is_in m o = o.module_id == m

-- a module's bytes are those of its objects, in object order
abbrev pub module_bytes : ℕ → List Placed → ℕ → Bytes
module_bytes carousel objects m = flat_map (object_bytes carousel objects) (filter (is_in m) objects)

-- a module where it has an object
abbrev pub module_if_used : ℕ → List Placed → ℕ → Option (ℕ × Bytes)
module_if_used carousel objects m = if list_any (is_in m) objects then Some (m, module_bytes carousel objects m) else None

-- the modules by rising id
abbrev pub layout_of : ℕ → List Placed → Layout
layout_of carousel objects = filter_map (module_if_used carousel objects) (range_with_len 1 (greatest (map (λ o. o.module_id) objects)))

-- the number that stands under an id, from 0 on
abbrev pub count_in : List ℕ → ℕ → ℕ
count_in counts m = get_or counts m 0

abbrev pub same_module : Option Bytes → Option Bytes → Bool
same_module (Some a) (Some b) = same_name a b
same_module _ _ = false

abbrev pub one_if_changed : Option Bytes → Option Bytes → ℕ
one_if_changed before None = 0
one_if_changed before (Some b) = if same_module before (Some b) then 0 else 1

-- a module's count: one more where it is listed, and is new or has other bytes
abbrev pub count_after : Layout → Layout → List ℕ → ℕ → ℕ
count_after old new counts m = count_in counts m + one_if_changed (module_in old m) (module_in new m)

-- how many ids are counted, from 0 on: those that were, and those up to the greatest that is listed
abbrev pub ids_counted : Layout → List ℕ → ℕ
ids_counted layout counts = fold (λ end m. max end (m.0 + 1)) (length counts) layout

abbrev pub counts_after : Layout → Layout → List ℕ → List ℕ
counts_after old new counts = map (count_after old new counts) (range_with_len 0 (ids_counted new counts))

-- the modules of the objects that were there before under the same path and kind
abbrev pub old_modules : List Placed → List Spot → List (Option ℕ)
old_modules old spots = map (λ s. module_of (placed_at old s)) spots

-- the module of each object: the one where it was, as far as there is room
abbrev pub modules_for : List Placed → Tree → List ℕ
modules_for old t = kept_modules GREATEST_ID (zip (sizes_of t) (old_modules old (spots_of t)))

-- the objects of a tree after those of another
abbrev pub objects_after : List Placed → Tree → List Placed
objects_after old t = placed_all (spots_of t) (keys_of old (spots_of t)) (modules_for old t)

abbrev pub make_generation : ℕ → ℕ → Tree → List Placed → Layout → List ℕ → GenerationState
make_generation carousel number t old before counts =
    let objects = objects_after old t in
    let layout = layout_of carousel objects in
    record { carousel = carousel; number = number; tree = t; objects = objects; layout = layout; counts = counts_after before layout counts }

abbrev pub gateway_before : List Placed
gateway_before = record { spot = gateway_spot; key = 1; module_id = 1 } ∷ []

-- generation 0 has the empty tree, and its counts are 0
abbrev pub first_of : ℕ → GenerationState
first_of carousel = record (make_generation carousel 0 [] gateway_before [] []) { counts = [] }

abbrev pub next_of : GenerationState → Tree → GenerationState
next_of g t = make_generation g.carousel (g.number + 1) t g.objects g.layout g.counts

-- the generation after these trees
abbrev pub generation_of : ℕ → List Tree → GenerationState
generation_of carousel trees = fold next_of (first_of carousel) trees

-- ---- what a generation sends

abbrev pub lines_in : Layout → List Line
lines_in layout = map (λ m. (m.0, blocks.block_count_of (length m.1) BLOCK_SIZE)) layout

abbrev pub lines_of : GenerationState → List Line
lines_of g = lines_in g.layout

-- modules as a DII lists them
abbrev pub dii_lines : List ℕ → Layout → List ModuleLine
dii_lines counts layout = map (λ m. record { id = m.0; size = length m.1; version = count_in counts m.0 % 256; compressed = false }) layout

-- DII j lists the modules of group j
abbrev pub dii_of : GenerationState → ℕ → controls.DiiFields
dii_of g j = record { download = g.carousel; block_size = BLOCK_SIZE; transaction = dii_transaction g.number j; modules = dii_lines g.counts (group_in g.layout j) }

abbrev pub gateway_location : ℕ → Location
gateway_location carousel = record { carousel = carousel; «module» = 1; key = key_bytes 1 }

abbrev pub control_section : ℕ → Bytes → sections.Fields
control_section extension payload = record { table = tables.Control; extension = extension; version = 0; number = 0; last = 0; payload = payload }

abbrev pub block_section : ℕ → ℕ → ℕ → ℕ → Bytes → sections.Fields
block_section carousel m version b bytes = record {
  table = tables.Blocks;
  extension = m;
  version = version % 32;
  number = b % 256;
  last = min 255 (blocks.block_count_of (length bytes) BLOCK_SIZE - 1);
  payload = blocks.spelling (record { download = carousel; module_id = m; version = version; number = b; bytes = blocks.block_of bytes BLOCK_SIZE b });
}

-- the section of an item
abbrev pub section_of : GenerationState → Item → Bytes
section_of g Dsi = sections.spelling (control_section 0 (controls.dsi_spelling DSI_TRANSACTION GATEWAY (gateway_location g.carousel)))
section_of g (Dii j) = sections.spelling (control_section (dii_transaction g.number j % 65536) (controls.dii_spelling (dii_of g j)))
section_of g (Block m b) = sections.spelling (block_section g.carousel m (count_in g.counts m % 256) b (unwrap_or (module_in g.layout m) []))

-- the DSI, the DII of each group that has one, and each block of each module
abbrev pub items_of : GenerationState → List Item
items_of g = Dsi ∷ (diis_of (lines_of g) ++ flat_map blocks_of (lines_of g))

-- the items of one whole cycle
abbrev pub cycle_items : List ℕ → GenerationState → List Item
cycle_items weights g = cycle_of weights (lines_of g)

-- the sections of one whole cycle
abbrev pub cycle_sections : List ℕ → GenerationState → List Bytes
cycle_sections weights g = map (section_of g) (cycle_items weights g)

-- these are items of that generation
abbrev pub AreItemsOf : GenerationState → List Item → Type 0
AreItemsOf g items = All (λ item. Contains (items_of g) item) items
