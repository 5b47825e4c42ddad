-- What is known to stay as it was from one generation to the next.
use Rattle.std.specs.Prelude.{◌≡◌, ℕ, Bool, true, false, List, map, Some, get_or}
use Rattle.std.specs.List.{flat_map}
use Rattle.path_tree.specs.Paths.{Bytes}
use Rattle.path_tree.specs.Trees.{Tree}
use Rattle.biop_object.specs.Names.{Layout, module_in}
use Rattle.generation.specs.Layouts.{Placed, object_bytes, module_bytes}
use Rattle.generation.specs.View.{view_placed}
use Rattle.generation.specs.declared.objects.Placed.{Placed as CodePlaced}

-- the bytes of some of a generation's objects, one after another
abbrev pub bytes_of_all : ℕ → List Placed → Tree → List CodePlaced → Bytes
bytes_of_all carousel all t objects = flat_map (object_bytes carousel all) (map (view_placed t) objects)

-- a module that is flagged has the same bytes with both lists of objects
abbrev pub SameModules : List Placed → List Placed → List Bool → Type 0
SameModules olds news flags = (carousel m : ℕ) → get_or flags m false ≡ true → module_bytes carousel olds m ≡ module_bytes carousel news m

-- a module that is flagged has in this layout the bytes that the objects give it
abbrev pub AreTheirs : ℕ → List Placed → Layout → List Bool → Type 0
AreTheirs carousel objects layout flags = (m : ℕ) (bytes : Bytes) → get_or flags m false ≡ true → module_in layout m ≡ Some bytes → bytes ≡ module_bytes carousel objects m
