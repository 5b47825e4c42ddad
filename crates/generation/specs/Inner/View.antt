-- What holds of what a generation is made of, and of what it keeps.
use Rattle.std.specs.Prelude.{◌≡◌, ◌≤◌, ◌<◌, ℕ, true, List, zero, suc, length, map, Some, None}
use Rattle.std.specs.List.{All, zip}
use Rattle.path_tree.specs.Trees.{Tree, IsTree, path_at, is_file_at}
use Rattle.biop_object.specs.Names.{Layout, module_in}
use Rattle.biop_object.specs.declared.written.FolderKind.{FolderKind}
use Rattle.biop_object.specs.declared.written.FolderKind.TheVariants.{Directory, Gateway}
use Rattle.cycle_planner.specs.Cycle.{AreLines}
use Rattle.module_packer.specs.Placement.{IsPlacement}
use Rattle.generation.specs.Publication.{spots_of, sizes_of, limit_of, gateway_spot, AreRising}
use Rattle.generation.specs.Layouts.{Placed as PlacedState, lines_of, layout_of, greatest, placed_at, module_of, same_module}
use Rattle.generation.specs.Inner.Linking.{AreMembers}
use Rattle.generation.specs.declared.links.By.TheVariants.{Folder, Module}
use Rattle.generation.specs.declared.spots.Spot.{Spot}
use Rattle.generation.specs.declared.limit.Publishable.TheInside.{Inside as CheckedInside}
use Rattle.generation.specs.declared.limit.Weighed.{Weighed}
use Rattle.generation.specs.declared.objects.Objects.{Objects}
use Rattle.generation.specs.declared.objects.Placed.{Placed}
use Rattle.generation.specs.declared.made.Listed.{Listed}
use Rattle.generation.specs.declared.made.Generation.TheInside.{Inside}
use Rattle.dsi_dii.specs.declared.TheConstants.{LAST_GENERATION, MOST_TOTAL_SIZE}
use Rattle.module_groups.specs.declared.TheConstants.{GREATEST_ID}
use Rattle.generation.specs.View.{view_spot, view_listed, objects_in, view_generation, IsRising}

pub record IsSpotIn (t : Tree) (s : Spot) : Type 0 where
  pub names : s.names ≤ length (path_at t s.entry)
  pub whole : s.whole ≡ true → (s.entry < length t) × (s.names ≡ length (path_at t s.entry)) × (is_file_at t s.entry ≡ true)
  pub named : (folder : ℕ) → s.parent ≡ Some folder → 1 ≤ s.names

-- these are the tree's objects in order
pub record AreSpotsOf (t : Tree) (spots : List Spot) : Type 0 where
  pub tree : IsTree t
  pub each : map (view_spot t) spots ≡ spots_of t
  pub valid : All (IsSpotIn t) spots

-- the objects of a tree with their sizes
pub record IsWeighed (t : Tree) (w : Weighed) : Type 0 where
  pub spots : AreSpotsOf t w.spots.items
  pub sizes : w.sizes.items ≡ sizes_of t

pub record IsChecked (c : CheckedInside) : Type 0 where
  pub within : limit_of c.tree ≡ None
  pub weighed : IsWeighed c.tree c.weighed

-- a module is marked exactly where the layout before has its bytes under its id
abbrev pub IsMarked : Layout → Listed → Type 0
IsMarked before l = l.stays ≡ same_module (module_in before l.id) (Some l.bytes)

abbrev pub AreMarked : Layout → List Listed → Type 0
AreMarked before ls = All (IsMarked before) ls

-- the id of a module
abbrev pub IsId : ℕ → Type 0
IsId m = (1 ≤ m) × (m ≤ GREATEST_ID)

-- objects after which others can be placed: they stand in the order of paths, each has a module within the limit, and
-- the gateway has module 1
pub record AreOld (old : List PlacedState) : Type 0 where
  pub rising : AreRising (map (λ o. o.spot) old)
  pub ids : All (λ o. IsId o.module_id) old
  pub gateway : (m : ℕ) → module_of (placed_at old gateway_spot) ≡ Some m → m ≡ 1

-- the objects of a tree that can be published, in the modules of a placement of their sizes
pub record ArePlaced (t : Tree) (objects : List PlacedState) : Type 0 where
  pub tree : IsTree t
  pub within : limit_of t ≡ None
  pub spots : map (λ o. o.spot) objects ≡ spots_of t
  pub placement : IsPlacement GREATEST_ID (sizes_of t) (map (λ o. o.module_id) objects)

-- an object other than the gateway, in a module
pub record IsChildIn (t : Tree) (o : Placed) : Type 0 where
  pub spot : IsSpotIn t o.spot
  pub named : 1 ≤ o.spot.names
  pub listed : IsId o.«module»

-- objects that are placed, with their groups
pub record AreReady (o : Objects) : Type 0 where
  pub placed : ArePlaced o.tree (objects_in o)
  pub spots : All (λ x. IsSpotIn o.tree x.spot) o.all.items
  pub ids : All (λ x. IsId x.«module») o.all.items
  pub last : greatest (map (λ x. x.«module») o.all.items) ≤ GREATEST_ID
  pub folders : AreMembers Folder o.all.items o.folders.items
  pub modules : AreMembers Module o.all.items o.modules.items

-- what holds of what is kept: the layout is that of the objects, the lines are those of the layout and make a cycle, and
-- numbers have room in their fields
pub record IsMade (g : Inside) : Type 0 where
  pub ready : AreReady g.objects
  pub layout : map view_listed g.modules.items ≡ layout_of g.carousel (objects_in g.objects)
  pub rising : IsRising (map view_listed g.modules.items)
  pub lines : g.lines.items ≡ lines_of (view_generation g)
  pub cycle : AreLines g.lines.items
  pub number : g.number ≤ LAST_GENERATION
  pub counts : All (λ c. c ≤ g.number) g.counts.items
  pub sizes : All (λ l. length l.bytes ≤ MOST_TOTAL_SIZE) g.modules.items

-- the gateway is the folder of no names
abbrev pub kind_in : ℕ → FolderKind
kind_in zero = Gateway
kind_in (suc n) = Directory

-- objects with their keys and modules
abbrev pub placed_from : List Spot → List ℕ → List ℕ → List Placed
placed_from spots keys ms = map (λ x. record { spot = x.0.0; key = x.0.1; «module» = x.1 }) (zip (zip spots keys) ms)
