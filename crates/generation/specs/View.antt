-- What a generation keeps, as one value.
use Rattle.std.specs.Prelude.{◌≤◌, ◌<◌, ℕ, [], zero, suc, map, take, get_or, Some, None, cond, List}
use Rattle.std.specs.List.{All, AllPairs}
use Rattle.path_tree.specs.Paths.{Bytes, PathNames}
use Rattle.path_tree.specs.Trees.{Tree, path_at, bytes_at}
use Rattle.biop_object.specs.Names.{Layout}
use Rattle.generation.specs.Publication.{Spot as SpotFields}
use Rattle.generation.specs.Layouts.{GenerationState, Placed as PlacedState}
use Rattle.generation.specs.declared.spots.Spot.{Spot}
use Rattle.generation.specs.declared.objects.Objects.{Objects}
use Rattle.generation.specs.declared.objects.Placed.{Placed}
use Rattle.generation.specs.declared.made.Listed.{Listed}
use Rattle.generation.specs.declared.made.Generation.TheInside.{Inside}

-- the last of the first names of a path
abbrev pub last_of : PathNames → ℕ → Bytes
last_of p zero = []
last_of p (suc k) = get_or p k []

-- an object's path is so many names of an entry's path, all of them where it is that entry's file
abbrev pub view_spot : Tree → Spot → SpotFields
view_spot t s = record {
  path = take s.names (path_at t s.entry);
  name = last_of (path_at t s.entry) s.names;
  content = cond s.whole (Some (bytes_at t s.entry)) None;
  number = s.number;
  parent = s.parent;
}

abbrev pub view_placed : Tree → Placed → PlacedState
view_placed t o = record { spot = view_spot t o.spot; key = o.key; module_id = o.module }

-- the objects, each with what the tree has at its path
abbrev pub all_placed : Tree → List Placed → List PlacedState
all_placed t objects = map (view_placed t) objects

abbrev pub objects_in : Objects → List PlacedState
objects_in o = all_placed o.tree o.all.items

abbrev pub view_listed : Listed → ℕ × Bytes
view_listed l = (l.id, l.bytes)

-- modules by rising id, from 1 on
pub record IsRising (layout : Layout) : Type 0 where
  pub rising : AllPairs (λ m n. m.0 < n.0) layout
  pub from_one : All (λ m. 1 ≤ m.0) layout

abbrev pub view_generation : Inside → GenerationState
view_generation g = record {
  carousel = g.carousel;
  number = g.number;
  tree = g.objects.tree;
  objects = objects_in g.objects;
  layout = map view_listed g.modules.items;
  counts = g.counts.items;
}
