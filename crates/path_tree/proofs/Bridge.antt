-- A tree's entries and its nesting are the same thing: each is made of the other.
use Rattle.std.proofs.Common.{◌≡◌, ◌≢◌, ◌⊎◌, Bool, true, false, ◌&&◌, [], ◌∷◌, ◌++◌, map, cond, refl, sym, ◌∙◌, ap, subst, inl, inr}
use Rattle.std.specs.List.{AllByRecursion}
use Rattle.std.specs.Ordering.{ordering_then}
use Rattle.std.specs.declared.cmp.Ordering.{Ordering}
use Rattle.std.specs.declared.cmp.Ordering.TheVariants.{Less, Equal, Greater}
use Rattle.path_tree.specs.Paths.{Bytes, PathNames, name_cmp, path_cmp, same_name, is_below}
use Rattle.path_tree.proofs.Order.{name_total, name_cmp-is, name_cmp-refl, names_differ, same_name-is, same_name-refl}
use Rattle.path_tree.specs.Trees.{Tree, IsApart, IsTree, node_at}
use Rattle.path_tree.specs.declared.entry.Entry.{Entry}
use Rattle.path_tree.specs.declared.entry.Entry.TheVariants as entries
use Rattle.path_tree.specs.Nestings.{Nesting, Empty, FileThen, FolderThen, under, mark_of, flat, first_inside, first_made, beside_first, put_before, nested, stands_at, IsAfter, IsKnown, IsNesting}
use Rattle.path_tree.specs.Laws.{TreesAreNestings}
use Rattle.path_tree.proofs.Rising.{Item, Apart, Rises, rises_tree}
use Rattle.path_tree.proofs.Walks.{has_first, walk-flat}

-- ---- what stands first in a nesting

pub split : (n : Bytes) (g : Nesting) → first_made n g ≡ false → flat g ≡ map (under n) (flat (first_inside n g)) ++ flat (beside_first n g)
split n Empty e = refl
split n (FileThen m b rest) e = refl
split n (FolderThen m made inside rest) e = go (same_name n m) refl e where
  go : (t : Bool) → same_name n m ≡ t → cond t made false ≡ false → flat (FolderThen m made inside rest) ≡ map (under n) (flat (cond t inside Empty)) ++ flat (cond t rest (FolderThen m made inside rest))
  go true is unmade = let same = same_name-is n m is in rw (unmade, same) refl
  go false is unmade = refl

pub all_front : (P : Item → Type 0) (xs ys : Tree) → AllByRecursion P (xs ++ ys) → AllByRecursion P xs
all_front P [] ys h = tt
all_front P (x ∷ xs) ys h = (h.0, all_front P xs ys h.1)

pub all_back : (P : Item → Type 0) (xs ys : Tree) → AllByRecursion P (xs ++ ys) → AllByRecursion P ys
all_back P [] ys h = h
all_back P (x ∷ xs) ys h = all_back P xs ys h.1

then_less : (o r : Ordering) → ordering_then o r ≡ Less → (o ≡ Less) ⊎ ((o ≡ Equal) × (r ≡ Less))
then_less Less r e = inl refl
then_less Equal r e = inr (refl, e)
then_less Greater r e = cc

pub no_less : (q : PathNames) → path_cmp q [] ≡ Less → ⊥
no_less [] e = cc
no_less (k ∷ ks) e = cc

-- a path whose first name is m comes after one whose first name is n
pub name_less : (n m : Bytes) (q r : PathNames) → path_cmp (n ∷ q) (m ∷ r) ≡ Less → same_name n m ≡ false → name_cmp n m ≡ Less
name_less n m q r e other = go (then_less (name_cmp n m) (path_cmp q r) e) where
  go : (name_cmp n m ≡ Less) ⊎ ((name_cmp n m ≡ Equal) × (path_cmp q r ≡ Less)) → name_cmp n m ≡ Less
  go (inl less) = less
  go (inr same) = let is : same_name n m ≡ true = subst (λ (k : Bytes). same_name n k ≡ true) (name_cmp-is n m same.0) (same_name-refl n) in let bad : true ≡ false = sym is ∙ other in cc

single_less : (n m : Bytes) (q : PathNames) → path_cmp (n ∷ q) (m ∷ []) ≡ Less → name_cmp n m ≡ Less
single_less n m q e = go (then_less (name_cmp n m) (path_cmp q []) e) where
  go : (name_cmp n m ≡ Less) ⊎ ((name_cmp n m ≡ Equal) × (path_cmp q [] ≡ Less)) → name_cmp n m ≡ Less
  go (inl less) = less
  go (inr same) = absurd (no_less q same.1)

not_self : (n m : Bytes) → name_cmp n m ≡ Less → same_name n m ≡ true → ⊥
not_self n m less same = let no = names_differ n m less in let bad : true ≡ false = sym same ∙ no in cc

-- a kept folder of the first name would stand before the entry
pub not_made : (n : Bytes) (q : PathNames) (e : Entry) (g : Nesting) → AllByRecursion (Apart (n ∷ q, e)) (flat g) → first_made n g ≡ false
not_made n q e Empty h = refl
not_made n q e (FileThen m b rest) h = refl
not_made n q e (FolderThen m made inside rest) h = go (same_name n m) refl made h where
  go : (t : Bool) → same_name n m ≡ t → (made : Bool) → AllByRecursion (Apart (n ∷ q, e)) (flat (FolderThen m made inside rest)) → cond t made false ≡ false
  go true is true h = absurd (not_self n m (single_less n m q h.0.0) is)
  go true is false h = refl
  go false is made h = refl

pub apart_down : (n m : Bytes) (q r : PathNames) (e : Entry) (x : Entry) → same_name n m ≡ true → Apart (n ∷ q, e) (m ∷ r, x) → Apart (q, e) (r, x)
apart_down n m q r e x is h =
    let same : name_cmp n m ≡ Equal = subst (λ (k : Bytes). name_cmp n k ≡ Equal) (same_name-is n m is) (name_cmp-refl n) in
    (sym (ap (λ o. ordering_then o (path_cmp q r)) same) ∙ h.0, subst (λ (b : Bool). IsApart e (b && is_below q r)) is h.1)

pub all_down : (n m : Bytes) (q : PathNames) (e : Entry) (t : Tree) → same_name n m ≡ true → AllByRecursion (Apart (n ∷ q, e)) (map (under m) t) → AllByRecursion (Apart (q, e)) t
all_down n m q e [] is h = tt
all_down n m q e (x ∷ xs) is h = (apart_down n m q x.0 e x.1 is h.0, all_down n m q e xs is h.1)

pub inside_down : (n : Bytes) (q : PathNames) (e : Entry) (g : Nesting) → AllByRecursion (Apart (n ∷ q, e)) (flat g) → AllByRecursion (Apart (q, e)) (flat (first_inside n g))
inside_down n q e Empty h = tt
inside_down n q e (FileThen m b rest) h = tt
inside_down n q e (FolderThen m made inside rest) h = go (same_name n m) refl where
  go : (t : Bool) → same_name n m ≡ t → AllByRecursion (Apart (q, e)) (flat (cond t inside Empty))
  go true is = all_down n m q e (flat inside) is (all_front (Apart (n ∷ q, e)) (map (under m) (flat inside)) (flat rest) (all_back (Apart (n ∷ q, e)) (mark_of m made) (map (under m) (flat inside) ++ flat rest) h))
  go false is = tt

-- ---- the entries of a nesting with one more

pub put-flat : (p : PathNames) (e : Entry) (g : Nesting) → p ≢ [] → AllByRecursion (Apart (p, e)) (flat g) → flat (put_before p e g) ≡ (p, e) ∷ flat g
put-flat [] e g deep h = absurd (deep refl)
put-flat (n ∷ []) (entries.File b) g deep h = refl
put-flat (n ∷ []) entries.Folder g deep h = ap (λ t. (n ∷ [], entries.Folder) ∷ t) (sym (split n g (not_made n [] entries.Folder g h)))
put-flat (n ∷ k ∷ ks) e g deep h =
    let no = not_made n (k ∷ ks) e g h in
    let down = put-flat (k ∷ ks) e (first_inside n g) (λ is. cc) (inside_down n (k ∷ ks) e g h) in
    ap (λ b. mark_of n b ++ (map (under n) (flat (put_before (k ∷ ks) e (first_inside n g))) ++ flat (beside_first n g))) no
    ∙ (ap (λ t. map (under n) t ++ flat (beside_first n g)) down ∙ ap (λ t. (n ∷ k ∷ ks, e) ∷ t) (sym (split n g no)))

-- ---- and it is a nesting

after_trans : (n m : Bytes) (g : Nesting) → name_cmp n m ≡ Less → IsAfter m g → IsAfter n g
after_trans n m Empty e h = tt
after_trans n m (FileThen k b rest) e h = (name_total.trans n m k e h.0, after_trans n m rest e h.1)
after_trans n m (FolderThen k made inside rest) e h = (name_total.trans n m k e h.0, after_trans n m rest e h.1)

folder_less : (n m : Bytes) (q : PathNames) (e : Entry) (made : Bool) (inside rest : Nesting) → same_name n m ≡ false → IsKnown made inside → IsNesting inside
    → AllByRecursion (Apart (n ∷ q, e)) (flat (FolderThen m made inside rest)) → name_cmp n m ≡ Less
folder_less n m q e true inside rest other known nesting h = single_less n m q h.0.0
folder_less n m q e false inside rest other known nesting h =
    let f = has_first inside known nesting in
    let g = all_front (Apart (n ∷ q, e)) (map (under m) (flat inside)) (flat rest) h in
    let k : AllByRecursion (Apart (n ∷ q, e)) (map (under m) ((f.name ∷ f.names, f.entry) ∷ f.others)) = subst (λ (t : Tree). AllByRecursion (Apart (n ∷ q, e)) (map (under m) t)) f.is g in
    name_less n m q (f.name ∷ f.names) k.0.0 other

pub beside_after : (n : Bytes) (q : PathNames) (e : Entry) (g : Nesting) → IsNesting g → AllByRecursion (Apart (n ∷ q, e)) (flat g) → IsAfter n (beside_first n g)
beside_after n q e Empty nesting h = tt
beside_after n q e (FileThen m b rest) nesting h = let less = single_less n m q h.0.0 in (less, after_trans n m rest less nesting.0)
beside_after n q e (FolderThen m made inside rest) nesting h = go (same_name n m) refl where
  go : (t : Bool) → same_name n m ≡ t → IsAfter n (cond t rest (FolderThen m made inside rest))
  go true is = subst (λ (x : Bytes). IsAfter x rest) (sym (same_name-is n m is)) nesting.2
  go false is = let less = folder_less n m q e made inside rest is nesting.0 nesting.1 h in (less, after_trans n m rest less nesting.2)

beside_nesting : (n : Bytes) (g : Nesting) → IsNesting g → IsNesting (beside_first n g)
beside_nesting n Empty nesting = tt
beside_nesting n (FileThen m b rest) nesting = nesting
beside_nesting n (FolderThen m made inside rest) nesting = go (same_name n m) where
  go : (t : Bool) → IsNesting (cond t rest (FolderThen m made inside rest))
  go true = nesting.3
  go false = nesting

inside_nesting : (n : Bytes) (g : Nesting) → IsNesting g → IsNesting (first_inside n g)
inside_nesting n Empty nesting = tt
inside_nesting n (FileThen m b rest) nesting = tt
inside_nesting n (FolderThen m made inside rest) nesting = go (same_name n m) where
  go : (t : Bool) → IsNesting (cond t inside Empty)
  go true = nesting.1
  go false = tt

-- where a file is put, no folder of its name stands
beside_file : (n b : Bytes) (g : Nesting) → IsNesting g → AllByRecursion (Apart (n ∷ [], entries.File b)) (flat g) → beside_first n g ≡ g
beside_file n b Empty nesting h = refl
beside_file n b (FileThen m c rest) nesting h = refl
beside_file n b (FolderThen m made inside rest) nesting h = go (same_name n m) refl made nesting.0 h where
  go : (t : Bool) → same_name n m ≡ t → (made : Bool) → IsKnown made inside → AllByRecursion (Apart (n ∷ [], entries.File b)) (flat (FolderThen m made inside rest)) → cond t rest (FolderThen m made inside rest) ≡ FolderThen m made inside rest
  go true is true known h = absurd (not_self n m (single_less n m [] h.0.0) is)
  go true is false known h =
      let f = has_first inside known nesting.1 in
      let g = all_down n m [] (entries.File b) (flat inside) is (all_front (Apart (n ∷ [], entries.File b)) (map (under m) (flat inside)) (flat rest) h) in
      let k : AllByRecursion (Apart ([], entries.File b)) ((f.name ∷ f.names, f.entry) ∷ f.others) = subst (λ (t : Tree). AllByRecursion (Apart ([], entries.File b)) t) f.is g in
      let bad : true ≡ false = k.0.1 in
      cc
  go false is made known h = refl

put-known : (m : Bool) (k : Bytes) (ks : PathNames) (e : Entry) (g : Nesting) → IsKnown m (put_before (k ∷ ks) e g)
put-known true k ks e g = tt
put-known false k [] (entries.File b) g = tt
put-known false k [] entries.Folder g = tt
put-known false k (j ∷ js) e g = tt

pub put-nesting : (p : PathNames) (e : Entry) (g : Nesting) → p ≢ [] → IsNesting g → AllByRecursion (Apart (p, e)) (flat g) → IsNesting (put_before p e g)
put-nesting [] e g deep nesting h = absurd (deep refl)
put-nesting (n ∷ []) (entries.File b) g deep nesting h = (subst (λ (x : Nesting). IsAfter n x) (beside_file n b g nesting h) (beside_after n [] (entries.File b) g nesting h), nesting)
put-nesting (n ∷ []) entries.Folder g deep nesting h = (tt, inside_nesting n g nesting, beside_after n [] entries.Folder g nesting h, beside_nesting n g nesting)
put-nesting (n ∷ k ∷ ks) e g deep nesting h =
    (put-known (first_made n g) k ks e (first_inside n g), put-nesting (k ∷ ks) e (first_inside n g) (λ is. cc) (inside_nesting n g nesting) (inside_down n (k ∷ ks) e g h), beside_after n (k ∷ ks) e g nesting h, beside_nesting n g nesting)

-- ---- the nesting of a tree's entries has these entries

pub nested-flat : (t : Tree) → Rises t → (flat (nested t) ≡ t) × IsNesting (nested t)
nested-flat [] r = (refl, tt)
nested-flat (e ∷ es) r =
    let ih = nested-flat es r.1.1 in
    let h : AllByRecursion (Apart (e.0, e.1)) (flat (nested es)) = subst (λ (t : Tree). AllByRecursion (Apart (e.0, e.1)) t) (sym ih.0) r.1.0 in
    (put-flat e.0 e.1 (nested es) r.0 h ∙ ap (λ t. e ∷ t) ih.0, put-nesting e.0 e.1 (nested es) r.0 ih.1 h)

-- what stands at a path of a tree is what the walk down its nesting meets
pub walk : (t : Tree) (p : PathNames) → IsTree t → node_at t p ≡ stands_at (nested t) p
walk t p h =
    let b = nested-flat t (rises_tree t h) in
    ap (λ u. node_at u p) (sym b.0) ∙ walk-flat (nested t) p b.1

pub trees_nested : TreesAreNestings
trees_nested t h =
    let b = nested-flat t (rises_tree t h) in
    record { entries = b.0; nesting = b.1; walk = λ p. walk t p h }

-- ---- and the entries of a nesting give that nesting again

pub after_inside : (n : Bytes) (g : Nesting) → IsAfter n g → (first_inside n g ≡ Empty) × (first_made n g ≡ false) × (beside_first n g ≡ g)
after_inside n Empty h = (refl, refl, refl)
after_inside n (FileThen m b rest) h = (refl, refl, refl)
after_inside n (FolderThen m made inside rest) h = let no = names_differ n m h.0 in (rw no refl, rw no refl, rw no refl)

-- entries under a name, before what comes after that name
pub under-nested : (n k : Bytes) (ks : PathNames) (e : Entry) (t u : Tree) (g : Nesting) → Rises ((k ∷ ks, e) ∷ t) → nested u ≡ g → IsAfter n g
    → nested (map (under n) ((k ∷ ks, e) ∷ t) ++ u) ≡ FolderThen n false (nested ((k ∷ ks, e) ∷ t)) g
under-nested n k ks e [] u g r is after = let h = after_inside n g after in rw (is, h.0, h.1, h.2) refl
under-nested n k ks e (([], x) ∷ t) u g r is after = absurd (r.1.1.0 refl)
under-nested n k ks e ((j ∷ js, x) ∷ t) u g r is after =
    let ih = under-nested n j js x t u g r.1.1 is after in
    ap (put_before (n ∷ k ∷ ks) e) ih ∙ again (same_name-refl n)
  where
    again : same_name n n ≡ true → put_before (n ∷ k ∷ ks) e (FolderThen n false (nested ((j ∷ js, x) ∷ t)) g) ≡ FolderThen n false (put_before (k ∷ ks) e (nested ((j ∷ js, x) ∷ t))) g
    again same = rw same refl

-- paths that begin with a later name
after_item : (n m : Bytes) (q r : PathNames) (e x : Entry) → name_cmp n m ≡ Less → Apart (n ∷ q, e) (m ∷ r, x)
after_item n m q r e x less = (rw less refl, apart e) where
  apart : (e : Entry) → IsApart e (same_name n m && is_below q r)
  apart (entries.File b) = rw (names_differ n m less) refl
  apart entries.Folder = tt

after_under : (n m : Bytes) (q : PathNames) (e : Entry) (t : Tree) → name_cmp n m ≡ Less → AllByRecursion (Apart (n ∷ q, e)) (map (under m) t)
after_under n m q e [] less = tt
after_under n m q e (x ∷ xs) less = (after_item n m q x.0 e x.1 less, after_under n m q e xs less)

all_join : (P : Item → Type 0) (xs ys : Tree) → AllByRecursion P xs → AllByRecursion P ys → AllByRecursion P (xs ++ ys)
all_join P [] ys h k = k
all_join P (x ∷ xs) ys h k = (h.0, all_join P xs ys h.1 k)

after_mark : (n m : Bytes) (q : PathNames) (e : Entry) (made : Bool) → name_cmp n m ≡ Less → AllByRecursion (Apart (n ∷ q, e)) (mark_of m made)
after_mark n m q e true less = (after_item n m q [] e entries.Folder less, tt)
after_mark n m q e false less = tt

after_apart : (n : Bytes) (q : PathNames) (e : Entry) (g : Nesting) → IsAfter n g → AllByRecursion (Apart (n ∷ q, e)) (flat g)
after_apart n q e Empty after = tt
after_apart n q e (FileThen m b rest) after = (after_item n m q [] e (entries.File b) after.0, after_apart n q e rest after.1)
after_apart n q e (FolderThen m made inside rest) after =
    all_join (Apart (n ∷ q, e)) (mark_of m made) (map (under m) (flat inside) ++ flat rest) (after_mark n m q e made after.0)
    (all_join (Apart (n ∷ q, e)) (map (under m) (flat inside)) (flat rest) (after_under n m q e (flat inside) after.0) (after_apart n q e rest after.1))

all_up : (n : Bytes) (q : PathNames) (e : Entry) (t : Tree) → AllByRecursion (Apart (q, e)) t → AllByRecursion (Apart (n ∷ q, e)) (map (under n) t)
all_up n q e [] h = tt
all_up n q e (x ∷ xs) h = ((rw (name_cmp-refl n) h.0.0, rw (same_name-refl n) h.0.1), all_up n q e xs h.1)

rises_beside : (n : Bytes) (t : Tree) (g : Nesting) → IsAfter n g → Rises t → Rises (flat g) → Rises (map (under n) t ++ flat g)
rises_beside n [] g after r s = s
rises_beside n (x ∷ xs) g after r s =
    (λ is. cc, (all_join (Apart (n ∷ x.0, x.1)) (map (under n) xs) (flat g) (all_up n x.0 x.1 xs r.1.0) (after_apart n x.0 x.1 g after), rises_beside n xs g after r.1.1 s))

all_below : (n : Bytes) (t : Tree) → Rises t → AllByRecursion (Apart (n ∷ [], entries.Folder)) (map (under n) t)
all_below n [] r = tt
all_below n (([], x) ∷ xs) r = absurd (r.0 refl)
all_below n ((k ∷ ks, x) ∷ xs) r = ((rw (name_cmp-refl n) refl, tt), all_below n xs r.1.1)

pub rises_flat : (g : Nesting) → IsNesting g → Rises (flat g)
rises_flat Empty nesting = tt
rises_flat (FileThen n b rest) nesting = (λ is. cc, (after_apart n [] (entries.File b) rest nesting.0, rises_flat rest nesting.1))
rises_flat (FolderThen n true inside rest) nesting =
    (λ is. cc, (all_join (Apart (n ∷ [], entries.Folder)) (map (under n) (flat inside)) (flat rest) (all_below n (flat inside) (rises_flat inside nesting.1)) (after_apart n [] entries.Folder rest nesting.2), rises_beside n (flat inside) rest nesting.2 (rises_flat inside nesting.1) (rises_flat rest nesting.3)))
rises_flat (FolderThen n false inside rest) nesting = rises_beside n (flat inside) rest nesting.2 (rises_flat inside nesting.1) (rises_flat rest nesting.3)

-- a folder's entries, before those that come after its name
folder-nested : (n : Bytes) (inside g : Nesting) (t u : Tree) → Rises t → nested t ≡ inside → nested u ≡ g → IsAfter n g → IsKnown false (nested t)
    → nested (map (under n) t ++ u) ≡ FolderThen n false inside g
folder-nested n inside g [] u r is also after known = absurd known
folder-nested n inside g (([], x) ∷ xs) u r is also after known = absurd (r.0 refl)
folder-nested n inside g ((k ∷ ks, x) ∷ xs) u r is also after known = under-nested n k ks x xs u g r also after ∙ ap (λ i. FolderThen n false i g) is

-- the entries of a nesting give that nesting again
pub flat-nested : (g : Nesting) → IsNesting g → nested (flat g) ≡ g
flat-nested Empty nesting = refl
flat-nested (FileThen n b rest) nesting = ap (FileThen n b) (flat-nested rest nesting.1)
flat-nested (FolderThen n false inside rest) nesting =
    let down = flat-nested inside nesting.1 in
    folder-nested n inside rest (flat inside) (flat rest) (rises_flat inside nesting.1) down (flat-nested rest nesting.3) nesting.2 (subst (λ (i : Nesting). IsKnown false i) (sym down) nesting.0)
flat-nested (FolderThen n true Empty rest) nesting =
    let h = after_inside n rest nesting.2 in
    ap (put_before (n ∷ []) entries.Folder) (flat-nested rest nesting.3) ∙ rw (h.0, h.2) refl
flat-nested (FolderThen n true (FileThen m b i) rest) nesting =
    let down = flat-nested (FileThen m b i) nesting.1 in
    ap (put_before (n ∷ []) entries.Folder) (folder-nested n (FileThen m b i) rest (flat (FileThen m b i)) (flat rest) (rises_flat (FileThen m b i) nesting.1) down (flat-nested rest nesting.3) nesting.2 (subst (λ (i : Nesting). IsKnown false i) (sym down) tt))
    ∙ rw (same_name-refl n) refl
flat-nested (FolderThen n true (FolderThen m made i j) rest) nesting =
    let down = flat-nested (FolderThen m made i j) nesting.1 in
    ap (put_before (n ∷ []) entries.Folder) (folder-nested n (FolderThen m made i j) rest (flat (FolderThen m made i j)) (flat rest) (rises_flat (FolderThen m made i j) nesting.1) down (flat-nested rest nesting.3) nesting.2 (subst (λ (i : Nesting). IsKnown false i) (sym down) tt))
    ∙ rw (same_name-refl n) refl
