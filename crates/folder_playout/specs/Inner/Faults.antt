-- Faults of reading a folder's tree, as a reading has them.
use Rattle.std.specs.Prelude.{◌≡◌, ◌⊎◌, List, [], ◌∷◌, Some, Result}
use Rattle.path_tree.specs.Paths.{Bytes}
use Rattle.path_tree.specs.Trees.{Tree}
use Rattle.folder_store.specs.declared.reading.ReadTree.{ReadTree}
use Rattle.folder_store.specs.declared.reading.ReadTree.TheVariants as walks
use Rattle.folder_store.specs.declared.reading.TreeFault.TheVariants as trees
use Rattle.folder_playout.specs.Readings.{Reading, Refused, Failed, reading_in}
use Rattle.folder_playout.specs.declared.reading.Unread.{Unread}

-- the fault of a walk that came to this path
abbrev pub of_walk : ReadTree → Bytes → List Reading
of_walk walks.FolderFault path = Failed path ∷ []
of_walk walks.TooDeep path = Refused trees.TooDeep (Some path) ∷ []
of_walk walks.BadName path = Refused trees.BadName (Some path) ∷ []
of_walk walks.NoMemory path = []

-- this was read, or there was no memory
abbrev pub Tells : Result Tree Unread → List Reading → Type 0
Tells read readings = (reading_in read ≡ readings) ⊎ (reading_in read ≡ [])
