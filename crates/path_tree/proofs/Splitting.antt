-- The nesting of entries that begin with those of one name: what stands under the name, and what stands beside it.
use Rattle.std.proofs.Common.{◌≡◌, true, false, [], ◌∷◌, ◌++◌, map, refl, sym, ◌∙◌, ap, subst}
use Rattle.std.specs.List.{AllByRecursion}
use Rattle.path_tree.specs.Paths.{Bytes, PathNames, same_name}
use Rattle.path_tree.specs.Trees.{Tree}
use Rattle.path_tree.specs.Nestings.{Nesting, Empty, FileThen, FolderThen, under, flat, put_before, nested, beside_first, IsAfter, IsNesting}
use Rattle.path_tree.specs.declared.entry.Entry.{Entry}
use Rattle.path_tree.specs.declared.entry.Entry.TheVariants as entries
use Rattle.path_tree.proofs.Order.{same_name-refl}
use Rattle.path_tree.proofs.Rising.{Item, Apart, Rises}
use Rattle.path_tree.proofs.Walks.{has_first}
use Rattle.path_tree.proofs.Bridge.{nested-flat, no_less, apart_down, all_down, all_front, beside_after, under-nested, after_inside}

-- the first of the entries doesn't begin with the name
abbrev pub StartsElse : Bytes → Tree → Type 0
StartsElse n [] = Unit {0}
StartsElse n (([], x) ∷ t) = Unit {0}
StartsElse n ((m ∷ r, x) ∷ t) = same_name n m ≡ false

-- what the entries of one name make, beside others
abbrev pub with_first : Bytes → Tree → Nesting → Nesting
with_first n [] g = g
with_first n (([], entries.File b) ∷ t) g = FileThen n b g
with_first n (([], entries.Folder) ∷ t) g = FolderThen n true (nested t) g
with_first n ((k ∷ ks, x) ∷ t) g = FolderThen n false (nested ((k ∷ ks, x) ∷ t)) g

-- ---- what stands beside a name

beside_other : (n : Bytes) (g : Nesting) → IsNesting g → StartsElse n (flat g) → beside_first n g ≡ g
beside_other n Empty nesting else' = refl
beside_other n (FileThen m b rest) nesting else' = refl
beside_other n (FolderThen m true inside rest) nesting else' = rw else' refl
beside_other n (FolderThen m false inside rest) nesting else' =
    let h = has_first inside nesting.0 nesting.1 in
    let other : same_name n m ≡ false = subst (λ (t : Tree). StartsElse n (map (under m) t ++ flat rest)) h.is else' in
    rw other refl

pub after_nested : (n : Bytes) (q : PathNames) (x : Entry) (u : Tree) → AllByRecursion (Apart (n ∷ q, x)) u → Rises u → StartsElse n u → IsAfter n (nested u)
after_nested n q x u apart r else' =
    let b = nested-flat u r in
    let h : AllByRecursion (Apart (n ∷ q, x)) (flat (nested u)) = subst (λ (t : Tree). AllByRecursion (Apart (n ∷ q, x)) t) (sym b.0) apart in
    let e : StartsElse n (flat (nested u)) = subst (StartsElse n) (sym b.0) else' in
    subst (IsAfter n) (beside_other n (nested u) b.1 e) (beside_after n q x (nested u) b.1 h)

-- ---- what stands under a name

pub rises_under : (n k : Bytes) (ks : PathNames) (x : Entry) (t u : Tree) → Rises (map (under n) ((k ∷ ks, x) ∷ t) ++ u) → Rises ((k ∷ ks, x) ∷ t)
rises_under n k ks x [] u r = (λ is. cc, (tt, tt))
rises_under n k ks x (([], y) ∷ t) u r = absurd (no_less (k ∷ ks) (apart_down n n (k ∷ ks) [] x y (same_name-refl n) r.1.0.0).0)
rises_under n k ks x ((j ∷ js, y) ∷ t) u r = (
  λ is. cc,
  (
    all_down n n (k ∷ ks) x ((j ∷ js, y) ∷ t) (same_name-refl n) (all_front (Apart (n ∷ k ∷ ks, x)) (map (under n) ((j ∷ js, y) ∷ t)) u r.1.0),
    rises_under n j js y t u r.1.1,
  ),
)

rises_beside : (n : Bytes) (t u : Tree) → Rises (map (under n) t ++ u) → Rises u
rises_beside n [] u r = r
rises_beside n (e ∷ es) u r = rises_beside n es u r.1.1

apart_beside : (n : Bytes) (q : PathNames) (x : Entry) (t u : Tree) → AllByRecursion (Apart (n ∷ q, x)) (map (under n) t ++ u) → AllByRecursion (Apart (n ∷ q, x)) u
apart_beside n q x [] u h = h
apart_beside n q x (e ∷ es) u h = apart_beside n q x es u h.1

-- nothing stands under a file
pub alone : (n b : Bytes) (y : Entry) (q : PathNames) → Apart (n ∷ [], entries.File b) (n ∷ q, y) → ⊥
alone n b y q h = go q (apart_down n n [] q (entries.File b) y (same_name-refl n) h) where
  go : (q : PathNames) → Apart ([], entries.File b) (q, y) → ⊥
  go [] h = no_less [] h.0
  go (k ∷ ks) h = let bad : true ≡ false = h.1 in cc

-- ---- the nesting of entries that begin with those of one name

pub nested_split : (n : Bytes) (e : Item) (t u : Tree) → Rises (map (under n) (e ∷ t) ++ u) → StartsElse n u → nested (map (under n) (e ∷ t) ++ u) ≡ with_first n (e ∷ t) (nested u)
nested_split n ([], entries.File b) [] u r else' = refl
nested_split n ([], entries.File b) ((q, y) ∷ t) u r else' = absurd (alone n b y q r.1.0.0)
nested_split n ([], entries.Folder) [] u r else' =
    let h = after_inside n (nested u) (after_nested n [] entries.Folder u r.1.0 r.1.1 else') in
    rw (h.0, h.2) refl
nested_split n ([], entries.Folder) (([], y) ∷ t) u r else' = absurd (no_less [] (apart_down n n [] [] entries.Folder y (same_name-refl n) r.1.0.0).0)
nested_split n ([], entries.Folder) ((k ∷ ks, y) ∷ t) u r else' =
    let after = after_nested n [] entries.Folder u (apart_beside n [] entries.Folder ((k ∷ ks, y) ∷ t) u r.1.0) (rises_beside n ((k ∷ ks, y) ∷ t) u r.1.1) else' in
    ap (put_before (n ∷ []) entries.Folder) (under-nested n k ks y t u (nested u) (rises_under n k ks y t u r.1.1) refl after) ∙ rw (same_name-refl n) refl
nested_split n (k ∷ ks, x) t u r else' =
    let after = after_nested n (k ∷ ks) x u (apart_beside n (k ∷ ks) x t u r.1.0) (rises_beside n t u r.1.1) else' in
    under-nested n k ks x t u (nested u) (rises_under n k ks x t u r) refl after
