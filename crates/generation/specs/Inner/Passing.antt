-- The objects of a tree in one pass over its entries: of each path the names that the path before it didn't have.
use Rattle.std.specs.Prelude.{◌≡◌, ℕ, zero, suc, ◌+◌, ◌++◌, ◌==◌, ◌&&◌, List, [], ◌∷◌, map, get_or, length, take, Some, None, cond}
use Rattle.std.specs.List.{All}
use Rattle.path_tree.specs.Paths.{PathNames, same_name}
use Rattle.path_tree.specs.Trees.{Tree, is_a_file, content_in, path_at, IsTree}
use Rattle.path_tree.specs.Nestings.{Nesting, Empty, FileThen, FolderThen, nested}
use Rattle.path_tree.specs.declared.entry.Entry.{Entry}
use Rattle.path_tree.specs.declared.text.TheConstants.{MOST_NAMES}
use Rattle.generation.specs.Publication.{Spot, below, spots_in, spots_of}
use Rattle.generation.specs.declared.spots.Spot.{Spot as CodeSpot}
use Rattle.generation.specs.View.{view_spot}
use Rattle.generation.specs.Inner.View.{IsSpotIn}

-- the path of the entry before
abbrev pub path_before : Tree → ℕ → PathNames
path_before t zero = []
path_before t (suc i) = path_at t i

-- the object of an entry's names up to the one at a depth
abbrev pub spot_at : PathNames × Entry → ℕ → ℕ → ℕ → Spot
spot_at e depth number parent = record {
  path = take (suc depth) e.0;
  name = get_or e.0 depth [];
  content = cond ((length e.0 == suc depth) && is_a_file e.1) (Some (content_in e.1)) None;
  number = number;
  parent = Some parent;
}

-- What is still to come of a nesting's objects once those of a path and all before them were met: the numbers are those of
-- the folders that the path leads through, from the one that the nesting stands in on, and of the next object.
abbrev pub to_come : PathNames → List ℕ → ℕ → Nesting → List Spot
to_come p [] next g = []
to_come [] (f ∷ fs) next g = spots_in f next g
to_come (m ∷ q) (f ∷ fs) next Empty = []
to_come (m ∷ q) (f ∷ fs) next (FileThen n b rest) = cond (same_name m n) (spots_in f next rest) (spots_in f next (FileThen n b rest))
to_come (m ∷ q) (f ∷ fs) next (FolderThen n made inside rest) =
    let down = to_come q fs next inside in
    cond (same_name m n) (map (below n) down ++ spots_in f (next + length down) rest) (spots_in f next (FolderThen n made inside rest))

-- what is kept once the objects of a path and all before them were met, where these are the entries from the path on
pub record Keeps (t : Tree) (path : PathNames) (left : Tree) (spots : List CodeSpot) (folders : List ℕ) : Type 0 where
  pub tree : IsTree t
  pub each : map (view_spot t) spots ++ to_come path folders (length spots) (nested left) ≡ spots_of t
  pub valid : All (IsSpotIn t) spots
  pub many : length folders ≡ MOST_NAMES + 1
