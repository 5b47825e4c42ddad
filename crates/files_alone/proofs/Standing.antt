-- The objects of a tree of files alone stand in the order in which they stood.
use Rattle.std.proofs.Common.{◌≡◌, ℕ, zero, suc, ◌+◌, ◌-◌, Bool, true, false, cond, List, [], ◌∷◌, ◌++◌, length, map, Some, None, refl, sym, ap, ◌∙◌, subst, arith, append_assoc}
use Rattle.std.specs.List.{AllByRecursion, range_with_len}
use Rattle.std.specs.declared.cmp.Ordering.TheVariants.{Less, Equal}
use Rattle.std.proofs.lemmas.List.{map-append}
use Rattle.path_tree.specs.Paths.{Bytes, PathNames, name_cmp, same_name}
use Rattle.path_tree.specs.Nestings.{Nesting, Empty, FileThen, FolderThen, nested, IsAfter, IsKnown, IsNesting}
use Rattle.path_tree.specs.Files.{FileTree, of_files}
use Rattle.path_tree.specs.Trees.{IsTree}
use Rattle.path_tree.proofs.CallerLemmas.{same_name-is, same_name-refl, name_cmp-refl, rises_tree, nested-flat}
use Rattle.generation.specs.Publication.{below, count_in, spots_in}
use Rattle.generation.specs.Publication as today
use Rattle.files_alone.specs.Objects.{Spot, shared_folders, folder_of, folders_after, spots_after, gateway_spot, spots_of}
use Rattle.files_alone.specs.Laws.{as_spot}
use Rattle.files_alone.proofs.Plain.{IsPlain, IsDeep, deeper, files_of, files_are, deep_all, first_file, plain_nested}

-- ---- the objects of folders in folders, by path and content alone

abbrev file_at : PathNames → Bytes → Spot
file_at p b = record { path = p; content = Some b }

abbrev folder_at : PathNames → Spot
folder_at p = record { path = p; content = None }

abbrev lower : Bytes → Spot → Spot
lower n s = record s { path = n ∷ s.path }

abbrev standing : Nesting → List Spot
standing Empty = []
standing (FileThen n b rest) = file_at (n ∷ []) b ∷ standing rest
standing (FolderThen n made inside rest) = folder_at (n ∷ []) ∷ (map (lower n) (standing inside) ++ standing rest)

lowered : (n : Bytes) (ss : List today.Spot) → map as_spot (map (below n) ss) ≡ map (lower n) (map as_spot ss)
lowered n [] = refl
lowered n (s ∷ ss) = ap (λ (l : List Spot). lower n (as_spot s) ∷ l) (lowered n ss)

standing_is : (parent next : ℕ) (g : Nesting) → map as_spot (spots_in parent next g) ≡ standing g
standing_is parent next Empty = refl
standing_is parent next (FileThen n b rest) = ap (λ (l : List Spot). file_at (n ∷ []) b ∷ l) (standing_is parent (suc next) rest)
standing_is parent next (FolderThen n made inside rest) =
    let down = spots_in next (suc next) inside in
    let more = spots_in parent (suc (next + count_in inside)) rest in
    ap (λ (l : List Spot). folder_at (n ∷ []) ∷ l)
    (map-append as_spot (map (below n) down) more
    ∙ ap (λ (l : List Spot). l ++ map as_spot more) (lowered n down ∙ ap (map (lower n)) (standing_is next (suc next) inside))
    ∙ ap (λ (l : List Spot). map (lower n) (standing inside) ++ l) (standing_is parent (suc (next + count_in inside)) rest))

-- ---- the folders before a file

range-up : (n : Bytes) (q : PathNames) (a count : ℕ) → map (folder_of (n ∷ q)) (range_with_len (suc a) count) ≡ map (lower n) (map (folder_of q) (range_with_len a count))
range-up n q a zero = refl
range-up n q a (suc count) =
    let e : suc a + 1 ≡ suc (a + 1) = omega arith in
    ap (λ (l : List Spot). folder_of (n ∷ q) (suc a) ∷ l) (ap (λ (b : ℕ). map (folder_of (n ∷ q)) (range_with_len b count)) e ∙ range-up n q (a + 1) count)

no_folders : (n : Bytes) (s : ℕ) → map (folder_of (n ∷ [])) (range_with_len (s + 1) (1 - 1 - s)) ≡ []
no_folders n s = let e : 1 - 1 - s ≡ 0 = omega arith in ap (λ (k : ℕ). map (folder_of (n ∷ [])) (range_with_len (s + 1) k)) e

-- none of the folders above was there before
folders-new : (n k : Bytes) (ks : PathNames) → map (folder_of (n ∷ k ∷ ks)) (range_with_len (0 + 1) (length (n ∷ k ∷ ks) - 1 - 0)) ≡ folder_of (n ∷ k ∷ ks) 1 ∷ map (lower n) (folders_after [] (k ∷ ks))
folders-new n k ks =
    let one : 0 + 1 ≡ 1 = omega arith in
    let count : length (n ∷ k ∷ ks) - 1 - 0 ≡ suc (length (k ∷ ks) - 1 - 0) = omega arith in
    let two : 1 + 1 ≡ suc (0 + 1) = omega arith in
    ap (λ (c : ℕ). map (folder_of (n ∷ k ∷ ks)) (range_with_len (0 + 1) c)) count
    ∙ (ap (λ (a : ℕ). map (folder_of (n ∷ k ∷ ks)) (range_with_len a (suc (length (k ∷ ks) - 1 - 0)))) one
    ∙ ap (λ (l : List Spot). folder_of (n ∷ k ∷ ks) 1 ∷ l) (ap (λ (a : ℕ). map (folder_of (n ∷ k ∷ ks)) (range_with_len a (length (k ∷ ks) - 1 - 0))) two ∙ range-up n (k ∷ ks) (0 + 1) (length (k ∷ ks) - 1 - 0)))

-- the first folder above was
folders-kept : (n k : Bytes) (ks : PathNames) (s : ℕ) → map (folder_of (n ∷ k ∷ ks)) (range_with_len (suc s + 1) (length (n ∷ k ∷ ks) - 1 - suc s)) ≡ map (lower n) (map (folder_of (k ∷ ks)) (range_with_len (s + 1) (length (k ∷ ks) - 1 - s)))
folders-kept n k ks s =
    let e : suc s + 1 ≡ suc (s + 1) = omega arith in
    let count : length (n ∷ k ∷ ks) - 1 - suc s ≡ length (k ∷ ks) - 1 - s = omega arith in
    ap (λ (c : ℕ). map (folder_of (n ∷ k ∷ ks)) (range_with_len (suc s + 1) c)) count
    ∙ (ap (λ (a : ℕ). map (folder_of (n ∷ k ∷ ks)) (range_with_len a (length (k ∷ ks) - 1 - s))) e ∙ range-up n (k ∷ ks) (s + 1) (length (k ∷ ks) - 1 - s))

folders-below : (n m k : Bytes) (ms ks : PathNames) → folders_after (n ∷ m ∷ ms) (n ∷ k ∷ ks) ≡ map (lower n) (folders_after (m ∷ ms) (k ∷ ks))
folders-below n m k ms ks =
    let s : ℕ = shared_folders (m ∷ ms) (k ∷ ks) in
    ap (λ (t : Bool). map (folder_of (n ∷ k ∷ ks)) (range_with_len (cond t (suc s) 0 + 1) (length (n ∷ k ∷ ks) - 1 - cond t (suc s) 0))) (same_name-refl n) ∙ folders-kept n k ks s

folders-first : (before : PathNames) (n k : Bytes) (ks : PathNames) → shared_folders before (n ∷ k ∷ ks) ≡ 0 → folders_after before (n ∷ k ∷ ks) ≡ folder_at (n ∷ []) ∷ map (lower n) (folders_after [] (k ∷ ks))
folders-first before n k ks none =
    ap (λ (s : ℕ). map (folder_of (n ∷ k ∷ ks)) (range_with_len (s + 1) (length (n ∷ k ∷ ks) - 1 - s))) none ∙ folders-new n k ks

-- ---- files below a name

after_kept : (n m : Bytes) (ms : PathNames) (xs : FileTree) → AllByRecursion IsDeep xs → spots_after (n ∷ m ∷ ms) (map (deeper n) xs) ≡ map (lower n) (spots_after (m ∷ ms) xs)
after_kept n m ms [] h = refl
after_kept n m ms (([], b) ∷ xs) h = absurd (h.0 refl)
after_kept n m ms ((k ∷ ks, b) ∷ xs) h =
    let above : List Spot = folders_after (m ∷ ms) (k ∷ ks) in
    ap (λ (l : List Spot). l ++ file_at (n ∷ k ∷ ks) b ∷ spots_after (n ∷ k ∷ ks) (map (deeper n) xs)) (folders-below n m k ms ks)
    ∙ ap (λ (l : List Spot). map (lower n) above ++ file_at (n ∷ k ∷ ks) b ∷ l) (after_kept n k ks xs h.1)
    ∙ sym (map-append (lower n) above (file_at (k ∷ ks) b ∷ spots_after (k ∷ ks) xs))

after_new : (before : PathNames) (n k : Bytes) (ks : PathNames) (b : Bytes) (xs : FileTree) → shared_folders before (n ∷ k ∷ ks) ≡ 0 → AllByRecursion IsDeep xs
    → spots_after before (map (deeper n) ((k ∷ ks, b) ∷ xs)) ≡ folder_at (n ∷ []) ∷ map (lower n) (spots_after [] ((k ∷ ks, b) ∷ xs))
after_new before n k ks b xs none h =
    let above : List Spot = folders_after [] (k ∷ ks) in
    ap (λ (l : List Spot). l ++ file_at (n ∷ k ∷ ks) b ∷ spots_after (n ∷ k ∷ ks) (map (deeper n) xs)) (folders-first before n k ks none)
    ∙ ap (λ (l : List Spot). folder_at (n ∷ []) ∷ (map (lower n) above ++ file_at (n ∷ k ∷ ks) b ∷ l)) (after_kept n k ks xs h)
    ∙ ap (λ (l : List Spot). folder_at (n ∷ []) ∷ l) (sym (map-append (lower n) above (file_at (k ∷ ks) b ∷ spots_after (k ∷ ks) xs)))

-- ---- one list of files after another

abbrev last_path : PathNames → FileTree → PathNames
last_path before [] = before
last_path before (e ∷ es) = last_path e.0 es

after_both : (before : PathNames) (xs ys : FileTree) → spots_after before (xs ++ ys) ≡ spots_after before xs ++ spots_after (last_path before xs) ys
after_both before [] ys = refl
after_both before (x ∷ xs) ys =
    ap (λ (l : List Spot). folders_after before x.0 ++ file_at x.0 x.1 ∷ l) (after_both x.0 xs ys)
    ∙ sym (append_assoc (folders_after before x.0) (file_at x.0 x.1 ∷ spots_after x.0 xs) (spots_after (last_path x.0 xs) ys))

last_deeper : (before : PathNames) (n : Bytes) (x : PathNames × Bytes) (xs : FileTree) → last_path before (map (deeper n) (x ∷ xs)) ≡ n ∷ last_path x.0 xs
last_deeper before n x [] = refl
last_deeper before n x (y ∷ ys) = last_deeper (n ∷ x.0) n y ys

-- ---- no folder of these was there before

abbrev IsNew : PathNames → Bytes → Type 0
IsNew before m = (q : PathNames) → shared_folders before (m ∷ q) ≡ 0

abbrev AreNew : PathNames → Nesting → Type 0
AreNew before Empty = Unit {0}
AreNew before (FileThen m b rest) = IsNew before m × AreNew before rest
AreNew before (FolderThen m made inside rest) = IsNew before m × AreNew before rest

new_first : (g : Nesting) → AreNew [] g
new_first Empty = tt
new_first (FileThen m b rest) = (λ q. refl, new_first rest)
new_first (FolderThen m made inside rest) = (λ q. refl, new_first rest)

new_beside : (n : Bytes) (g : Nesting) → AreNew (n ∷ []) g
new_beside n Empty = tt
new_beside n (FileThen m b rest) = (λ q. refl, new_beside n rest)
new_beside n (FolderThen m made inside rest) = (λ q. refl, new_beside n rest)

other_name : (n m : Bytes) → name_cmp n m ≡ Less → same_name n m ≡ false
other_name n m less = by (same_name n m) refl where
  by : (b : Bool) → same_name n m ≡ b → b ≡ false
  by true e =
      let same : n ≡ m = same_name-is n m e in
      let itself : name_cmp n n ≡ Less = ap (name_cmp n) same ∙ less in
      let tied : name_cmp n n ≡ Equal = name_cmp-refl n in
      let z : Less ≡ Equal = sym itself ∙ tied in
      cc
  by false e = refl

other_new : (n m : Bytes) (p : PathNames) → name_cmp n m ≡ Less → IsNew (n ∷ p) m
other_new n m [] less q = refl
other_new n m (k ∷ ks) less q = ap (λ (b : Bool). cond b (suc (shared_folders (k ∷ ks) q)) 0) (other_name n m less)

new_after : (n : Bytes) (p : PathNames) (g : Nesting) → IsAfter n g → AreNew (n ∷ p) g
new_after n p Empty h = tt
new_after n p (FileThen m b rest) h = (other_new n m p h.0, new_after n p rest h.1)
new_after n p (FolderThen m made inside rest) h = (other_new n m p h.0, new_after n p rest h.1)

-- ---- all objects

stood : (before : PathNames) (g : Nesting) → IsPlain g → IsNesting g → AreNew before g → spots_after before (files_of g) ≡ standing g
stood before Empty plain nesting new = refl
stood before (FileThen n b rest) plain nesting new =
    ap (λ (l : List Spot). l ++ file_at (n ∷ []) b ∷ spots_after (n ∷ []) (files_of rest)) (no_folders n (shared_folders before (n ∷ [])))
    ∙ ap (λ (l : List Spot). file_at (n ∷ []) b ∷ l) (stood (n ∷ []) rest plain nesting.1 (new_beside n rest))
stood before (FolderThen n made inside rest) plain nesting new =
    let f = first_file inside plain.1 nesting.1 (subst (λ (m : Bool). IsKnown m inside) plain.0 nesting.0) in
    let deep : AllByRecursion IsDeep ((f.name ∷ f.names, f.content) ∷ f.others) = subst (AllByRecursion IsDeep) f.is (deep_all inside) in
    let inner : FileTree = map (deeper n) (files_of inside) in
    let first : spots_after before inner ≡ folder_at (n ∷ []) ∷ map (lower n) (standing inside) =
    ap (λ (l : FileTree). spots_after before (map (deeper n) l)) f.is
    ∙ after_new before n f.name f.names f.content f.others (new.0 (f.name ∷ f.names)) deep.1
    ∙ ap (λ (l : List Spot). folder_at (n ∷ []) ∷ map (lower n) l) (ap (spots_after []) (sym f.is) ∙ stood [] inside plain.1 nesting.1 (new_first inside)) in
    let last : last_path before inner ≡ n ∷ last_path (f.name ∷ f.names) f.others =
    ap (λ (l : FileTree). last_path before (map (deeper n) l)) f.is ∙ last_deeper before n (f.name ∷ f.names, f.content) f.others in
    let second : spots_after (last_path before inner) (files_of rest) ≡ standing rest =
    ap (λ (p : PathNames). spots_after p (files_of rest)) last
    ∙ stood (n ∷ last_path (f.name ∷ f.names) f.others) rest plain.2 nesting.3 (new_after n (last_path (f.name ∷ f.names) f.others) rest nesting.2) in
    after_both before inner (files_of rest) ∙ (λ i. first i ++ second i)

pub spots_same : (t : FileTree) → IsTree (of_files t) → map as_spot (today.spots_of (of_files t)) ≡ spots_of t
spots_same t h =
    let g = nested (of_files t) in
    let nesting = (nested-flat (of_files t) (rises_tree (of_files t) h)).1 in
    ap (λ (l : List Spot). gateway_spot ∷ l)
    (standing_is 0 1 g ∙ sym (stood [] g (plain_nested t) nesting (new_first g)) ∙ ap (spots_after []) (files_are t h))
