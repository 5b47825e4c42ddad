-- A tree of files alone as folders in folders: none of them is marked, and the files are the tree's.
use Rattle.std.proofs.Common.{◌≡◌, ◌≢◌, Bool, true, false, cond, [], ◌∷◌, ◌++◌, map, refl, sym, ap, ◌∙◌, subst}
use Rattle.std.specs.List.{AllByRecursion}
use Rattle.std.proofs.lemmas.List.{map-append}
use Rattle.path_tree.specs.Paths.{Bytes, PathNames, same_name}
use Rattle.path_tree.specs.Trees.{Tree, IsTree}
use Rattle.path_tree.specs.Nestings.{Nesting, Empty, FileThen, FolderThen, under, mark_of, flat, first_inside, first_made, beside_first, put_before, nested, IsKnown, IsNesting}
use Rattle.path_tree.specs.Files.{FileTree, filed, of_files}
use Rattle.path_tree.specs.declared.entry.Entry.{Entry}
use Rattle.path_tree.specs.declared.entry.Entry.TheVariants as entries
use Rattle.path_tree.proofs.CallerLemmas.{rises_tree, nested-flat}

-- no folder is marked
abbrev pub IsPlain : Nesting → Type 0
IsPlain Empty = Unit {0}
IsPlain (FileThen n b rest) = IsPlain rest
IsPlain (FolderThen n made inside rest) = (made ≡ false) × IsPlain inside × IsPlain rest

plain_inside : (n : Bytes) (g : Nesting) → IsPlain g → IsPlain (first_inside n g)
plain_inside n Empty h = tt
plain_inside n (FileThen m b rest) h = tt
plain_inside n (FolderThen m made inside rest) h = go (same_name n m) where
  go : (b : Bool) → IsPlain (cond b inside Empty)
  go true = h.1
  go false = tt

plain_made : (n : Bytes) (g : Nesting) → IsPlain g → first_made n g ≡ false
plain_made n Empty h = refl
plain_made n (FileThen m b rest) h = refl
plain_made n (FolderThen m made inside rest) h = go (same_name n m) where
  go : (b : Bool) → cond b made false ≡ false
  go true = h.0
  go false = refl

plain_beside : (n : Bytes) (g : Nesting) → IsPlain g → IsPlain (beside_first n g)
plain_beside n Empty h = tt
plain_beside n (FileThen m b rest) h = h
plain_beside n (FolderThen m made inside rest) h = go (same_name n m) where
  go : (b : Bool) → IsPlain (cond b rest (FolderThen m made inside rest))
  go true = h.2
  go false = h

plain_put : (p : PathNames) (b : Bytes) (g : Nesting) → IsPlain g → IsPlain (put_before p (entries.File b) g)
plain_put [] b g h = h
plain_put (n ∷ []) b g h = h
plain_put (n ∷ k ∷ ks) b g h = (plain_made n g h, plain_put (k ∷ ks) b (first_inside n g) (plain_inside n g h), plain_beside n g h)

pub plain_nested : (t : FileTree) → IsPlain (nested (of_files t))
plain_nested [] = tt
plain_nested (e ∷ es) = plain_put e.0 e.1 (nested (of_files es)) (plain_nested es)

-- ---- the files, by path

abbrev pub deeper : Bytes → PathNames × Bytes → PathNames × Bytes
deeper n e = (n ∷ e.0, e.1)

abbrev pub files_of : Nesting → FileTree
files_of Empty = []
files_of (FileThen n b rest) = (n ∷ [], b) ∷ files_of rest
files_of (FolderThen n made inside rest) = map (deeper n) (files_of inside) ++ files_of rest

under_filed : (n : Bytes) (xs : FileTree) → map (under n) (of_files xs) ≡ of_files (map (deeper n) xs)
under_filed n [] = refl
under_filed n (x ∷ xs) = ap (λ (l : Tree). (n ∷ x.0, entries.File x.1) ∷ l) (under_filed n xs)

flat_is : (g : Nesting) → IsPlain g → flat g ≡ of_files (files_of g)
flat_is Empty h = refl
flat_is (FileThen n b rest) h = ap (λ (l : Tree). (n ∷ [], entries.File b) ∷ l) (flat_is rest h)
flat_is (FolderThen n made inside rest) h =
    ap (λ (m : Bool). mark_of n m ++ (map (under n) (flat inside) ++ flat rest)) h.0
    ∙ ap (λ (l : Tree). map (under n) l ++ flat rest) (flat_is inside h.1)
    ∙ ap (λ (l : Tree). map (under n) (of_files (files_of inside)) ++ l) (flat_is rest h.2)
    ∙ ap (λ (l : Tree). l ++ of_files (files_of rest)) (under_filed n (files_of inside))
    ∙ sym (map-append filed (map (deeper n) (files_of inside)) (files_of rest))

abbrev bytes_in : Entry → Bytes
bytes_in (entries.File b) = b
bytes_in entries.Folder = []

abbrev unfiled : PathNames × Entry → PathNames × Bytes
unfiled e = (e.0, bytes_in e.1)

unfiled_all : (t : FileTree) → map unfiled (of_files t) ≡ t
unfiled_all [] = refl
unfiled_all (x ∷ xs) = ap (λ (l : FileTree). x ∷ l) (unfiled_all xs)

pub files_are : (t : FileTree) → IsTree (of_files t) → files_of (nested (of_files t)) ≡ t
files_are t h =
    let g = nested (of_files t) in
    let same : of_files (files_of g) ≡ of_files t = sym (flat_is g (plain_nested t)) ∙ (nested-flat (of_files t) (rises_tree (of_files t) h)).0 in
    sym (unfiled_all (files_of g)) ∙ ap (map unfiled) same ∙ unfiled_all t

-- ---- each file stands below a name, and a folder has a first one

abbrev pub IsDeep : PathNames × Bytes → Type 0
IsDeep e = e.0 ≢ []

deep_under : (n : Bytes) (xs : FileTree) → AllByRecursion IsDeep (map (deeper n) xs)
deep_under n [] = tt
deep_under n (x ∷ xs) = (λ e. cc, deep_under n xs)

deep_both : (xs ys : FileTree) → AllByRecursion IsDeep xs → AllByRecursion IsDeep ys → AllByRecursion IsDeep (xs ++ ys)
deep_both [] ys h k = k
deep_both (x ∷ xs) ys h k = (h.0, deep_both xs ys h.1 k)

pub deep_all : (g : Nesting) → AllByRecursion IsDeep (files_of g)
deep_all Empty = tt
deep_all (FileThen n b rest) = (λ e. cc, deep_all rest)
deep_all (FolderThen n made inside rest) = deep_both (map (deeper n) (files_of inside)) (files_of rest) (deep_under n (files_of inside)) (deep_all rest)

pub record HasFirst (xs : FileTree) : Type 0 where
  pub name : Bytes
  pub names : PathNames
  pub content : Bytes
  pub others : FileTree
  pub is : xs ≡ (name ∷ names, content) ∷ others

pub first_file : (g : Nesting) → IsPlain g → IsNesting g → IsKnown false g → HasFirst (files_of g)
first_file Empty plain nesting known = absurd known
first_file (FileThen n b rest) plain nesting known = record { name = n; names = []; content = b; others = files_of rest; is = refl }
first_file (FolderThen n made inside rest) plain nesting known =
    let f = first_file inside plain.1 nesting.1 (subst (λ (m : Bool). IsKnown m inside) plain.0 nesting.0) in
    record {
      name = n;
      names = f.name ∷ f.names;
      content = f.content;
      others = map (deeper n) f.others ++ files_of rest;
      is = ap (λ (l : FileTree). map (deeper n) l ++ files_of rest) f.is;
    }
