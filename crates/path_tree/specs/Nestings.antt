-- A tree as folders in folders. A nesting is what stands in one folder: its files and folders in the order of their names.
-- A folder has what stands in it, and is marked where it was made by an edit of its own.
use Rattle.std.specs.Prelude.{◌≡◌, Bool, true, false, List, [], ◌∷◌, ◌++◌, map, cond}
use Rattle.std.specs.declared.cmp.Ordering.TheVariants.{Less}
use Rattle.path_tree.specs.Paths.{Bytes, PathNames, name_cmp, same_name}
use Rattle.path_tree.specs.Trees.{Tree, Node, File, Folder, NoSuch}
use Rattle.path_tree.specs.declared.entry.Entry.{Entry}
use Rattle.path_tree.specs.declared.entry.Entry.TheVariants as entries

pub data Nesting : Type 0 where
  Empty : Nesting
  FileThen : Bytes → Bytes → Nesting → Nesting
  FolderThen : Bytes → Bool → Nesting → Nesting → Nesting

-- ---- what stands at a path, by walking down

abbrev pub names_in : Nesting → List Bytes
names_in Empty = []
names_in (FileThen m b rest) = m ∷ names_in rest
names_in (FolderThen m made inside rest) = m ∷ names_in rest

abbrev pub in_file : Bytes → PathNames → Node
in_file b [] = File b
in_file b (k ∷ ks) = NoSuch

-- what stands at the path of a name and more names
abbrev pub stands_in : Nesting → Bytes → PathNames → Node
stands_in Empty n q = NoSuch
stands_in (FileThen m b rest) n q = cond (same_name n m) (in_file b q) (stands_in rest n q)
stands_in (FolderThen m made inside rest) n [] = cond (same_name n m) (Folder (names_in inside)) (stands_in rest n [])
stands_in (FolderThen m made inside rest) n (k ∷ ks) = cond (same_name n m) (stands_in inside k ks) (stands_in rest n (k ∷ ks))

abbrev pub stands_at : Nesting → PathNames → Node
stands_at g [] = Folder (names_in g)
stands_at g (n ∷ q) = stands_in g n q

-- ---- the entries of a nesting, in the order of paths

abbrev pub under : Bytes → PathNames × Entry → PathNames × Entry
under n e = (n ∷ e.0, e.1)

abbrev pub mark_of : Bytes → Bool → Tree
mark_of n true = (n ∷ [], entries.Folder) ∷ []
mark_of n false = []

abbrev pub flat : Nesting → Tree
flat Empty = []
flat (FileThen n b rest) = (n ∷ [], entries.File b) ∷ flat rest
flat (FolderThen n made inside rest) = mark_of n made ++ (map (under n) (flat inside) ++ flat rest)

-- ---- the nesting of a tree's entries

-- what stands in the first folder, where it has the name, whether it is marked, and what stands beside it
abbrev pub first_inside : Bytes → Nesting → Nesting
first_inside n Empty = Empty
first_inside n (FileThen m b rest) = Empty
first_inside n (FolderThen m made inside rest) = cond (same_name n m) inside Empty

abbrev pub first_made : Bytes → Nesting → Bool
first_made n Empty = false
first_made n (FileThen m b rest) = false
first_made n (FolderThen m made inside rest) = cond (same_name n m) made false

abbrev pub beside_first : Bytes → Nesting → Nesting
beside_first n Empty = Empty
beside_first n (FileThen m b rest) = FileThen m b rest
beside_first n (FolderThen m made inside rest) = cond (same_name n m) rest (FolderThen m made inside rest)

-- with an entry that stands before all others
abbrev pub put_before : PathNames → Entry → Nesting → Nesting
put_before [] e g = g
put_before (n ∷ []) (entries.File b) g = FileThen n b g
put_before (n ∷ []) entries.Folder g = FolderThen n true (first_inside n g) (beside_first n g)
put_before (n ∷ k ∷ ks) e g = FolderThen n (first_made n g) (put_before (k ∷ ks) e (first_inside n g)) (beside_first n g)

abbrev pub nested : Tree → Nesting
nested [] = Empty
nested (e ∷ es) = put_before e.0 e.1 (nested es)

-- ---- nestings of trees

abbrev pub IsAfter : Bytes → Nesting → Type 0
IsAfter n Empty = Unit {0}
IsAfter n (FileThen m b rest) = (name_cmp n m ≡ Less) × IsAfter n rest
IsAfter n (FolderThen m made inside rest) = (name_cmp n m ≡ Less) × IsAfter n rest

-- a folder that isn't marked has something in it
abbrev pub IsKnown : Bool → Nesting → Type 0
IsKnown true g = Unit {0}
IsKnown false Empty = ⊥
IsKnown false (FileThen n b rest) = Unit {0}
IsKnown false (FolderThen n made inside rest) = Unit {0}

-- names rise, and each folder is marked or has something in it
abbrev pub IsNesting : Nesting → Type 0
IsNesting Empty = Unit {0}
IsNesting (FileThen n b rest) = IsAfter n rest × IsNesting rest
IsNesting (FolderThen n made inside rest) = IsKnown made inside × IsNesting inside × IsAfter n rest × IsNesting rest
