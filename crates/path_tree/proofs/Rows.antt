-- The worked rows, by computation.
use Rattle.std.proofs.Common.{◌≡◌, true, [], ◌∷◌, Ok, Err, refl}
use Rattle.path_tree.specs.Trees.{Tree, File, Folder, node_at}
use Rattle.path_tree.specs.Edits.{apply_all}
use Rattle.path_tree.specs.Nestings.{Empty, FileThen, FolderThen, nested}
use Rattle.path_tree.specs.declared.entry.Entry.TheVariants as entries
use Rattle.path_tree.specs.declared.tree.Edit.TheVariants.{Put, Remove, MakeFolder, RemoveFolder}
use Rattle.path_tree.specs.declared.tree.EditFault.TheVariants.{FolderThere, FileThere, NoSuchFolder, NotEmpty, ThroughFile, NoSuchFile}

-- make /d; then a put at /d is refused by its place; then the folder is taken out
made : apply_all [] (MakeFolder ((100 ∷ []) ∷ []) ∷ []) ≡ Ok (((100 ∷ []) ∷ [], entries.Folder) ∷ [])
made = refl

listed : node_at (((100 ∷ []) ∷ [], entries.Folder) ∷ []) ((100 ∷ []) ∷ []) ≡ Folder []
listed = refl

refused : apply_all (((100 ∷ []) ∷ [], entries.Folder) ∷ []) (Put ((100 ∷ []) ∷ []) (49 ∷ []) ∷ []) ≡ Err (0, FolderThere)
refused = refl

taken : apply_all (((100 ∷ []) ∷ [], entries.Folder) ∷ []) (RemoveFolder ((100 ∷ []) ∷ []) ∷ []) ≡ Ok []
taken = refl

-- make /d, put /d/x, remove folder /d
full : apply_all [] (MakeFolder ((100 ∷ []) ∷ []) ∷ Put ((100 ∷ []) ∷ (120 ∷ []) ∷ []) [] ∷ RemoveFolder ((100 ∷ []) ∷ []) ∷ []) ≡ Err (2, NotEmpty)
full = refl

-- the kept folder stays where its last file is taken out
kept : apply_all [] (MakeFolder ((100 ∷ []) ∷ []) ∷ Put ((100 ∷ []) ∷ (120 ∷ []) ∷ []) [] ∷ Remove ((100 ∷ []) ∷ (120 ∷ []) ∷ []) ∷ []) ≡ Ok (((100 ∷ []) ∷ [], entries.Folder) ∷ [])
kept = refl

-- a folder that stands because of a file can be made, and then stays
later : apply_all [] (Put ((100 ∷ []) ∷ (120 ∷ []) ∷ []) [] ∷ MakeFolder ((100 ∷ []) ∷ []) ∷ Remove ((100 ∷ []) ∷ (120 ∷ []) ∷ []) ∷ []) ≡ Ok (((100 ∷ []) ∷ [], entries.Folder) ∷ [])
later = refl

root : apply_all [] (MakeFolder [] ∷ []) ≡ Err (0, FolderThere)
root = refl

at_file : apply_all [] (Put ((100 ∷ []) ∷ []) [] ∷ MakeFolder ((100 ∷ []) ∷ []) ∷ []) ≡ Err (1, FileThere)
at_file = refl

through : apply_all [] (Put ((100 ∷ []) ∷ []) [] ∷ MakeFolder ((100 ∷ []) ∷ (120 ∷ []) ∷ []) ∷ []) ≡ Err (1, ThroughFile)
through = refl

not_made : apply_all [] (Put ((100 ∷ []) ∷ (120 ∷ []) ∷ []) [] ∷ RemoveFolder ((100 ∷ []) ∷ []) ∷ []) ≡ Err (1, NoSuchFolder)
not_made = refl

no_file : apply_all [] (MakeFolder ((100 ∷ []) ∷ []) ∷ Remove ((100 ∷ []) ∷ []) ∷ []) ≡ Err (1, NoSuchFile)
no_file = refl

-- an empty folder a, and b = 2
abbrev two : Tree
two = ((97 ∷ []) ∷ [], entries.Folder) ∷ ((98 ∷ []) ∷ [], entries.File (50 ∷ [])) ∷ []

two-nested : nested two ≡ FolderThen (97 ∷ []) true Empty (FileThen (98 ∷ []) (50 ∷ []) Empty)
two-nested = refl

two-root : node_at two [] ≡ Folder ((97 ∷ []) ∷ (98 ∷ []) ∷ [])
two-root = refl

two-a : node_at two ((97 ∷ []) ∷ []) ≡ Folder []
two-a = refl

two-b : node_at two ((98 ∷ []) ∷ []) ≡ File (50 ∷ [])
two-b = refl
