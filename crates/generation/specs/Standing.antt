-- What the objects of a tree are, by what stands at a path.
use Rattle.std.specs.Prelude.{◌≡◌, ◌<◌, ℕ, List, [], ◌∷◌, ◌++◌, length, get_or, Option, Some, None, if◌then◌else◌}
use Rattle.std.specs.List.{All}
use Rattle.path_tree.specs.Paths.{Bytes, PathNames, same_path}
use Rattle.path_tree.specs.Trees.{Tree, IsTree, Node, File, Folder, NoSuch, node_at}
use Rattle.generation.specs.Publication.{Spot, gateway_spot, spots_of, AreRising}

-- the content of the first object at a path, where one is there
abbrev pub object_at : List Spot → PathNames → Option (Option Bytes)
object_at [] p = None
object_at (s ∷ ss) p = if same_path p s.path then Some s.content else object_at ss p

-- the content of the object of what stands at a path: a file's bytes, or none of a folder
abbrev pub object_for : Node → Option (Option Bytes)
object_for (File b) = Some (Some b)
object_for (Folder names) = Some None
object_for NoSuch = None

-- An object's path is that of its parent with its own name behind. Only the root has no parent.
abbrev pub IsIn : List Spot → Spot → Option ℕ → Type 0
IsIn spots s (Some p) = (p < length spots) × (s.path ≡ (get_or spots p gateway_spot).path ++ s.name ∷ [])
IsIn spots s None = s.path ≡ []

-- An object's number is its place in the list, counted from 0, and its parent's number is that of the folder that it stands
-- right in. What a folder's size counts is by these numbers.
pub record IsNumbered (spots : List Spot) : Type 0 where
  pub numbers : (i : ℕ) (d : Spot) → i < length spots → (get_or spots i d).number ≡ i
  pub parents : All (λ s. IsIn spots s s.parent) spots

-- The objects of a tree stand in the order of paths, and there is one at a path exactly where something stands there.
pub record AreWhatStands (t : Tree) (spots : List Spot) : Type 0 where
  pub rising : AreRising spots
  pub numbered : IsNumbered spots
  pub each : (p : PathNames) → object_at spots p ≡ object_for (node_at t p)

abbrev pub ObjectsAreWhatStands : Type 0
ObjectsAreWhatStands = (t : Tree) → IsTree t → AreWhatStands t (spots_of t)
