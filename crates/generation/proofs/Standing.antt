-- The objects of a tree by its folders in folders: how many they are, their order, and which stands at a path.
use Rattle.std.proofs.Common.{◌≡◌, ℕ, suc, ◌+◌, Bool, true, false, List, [], ◌∷◌, ◌++◌, length, map, Option, Some, None, cond, refl, sym, ◌∙◌, ap, subst, inl, inr, arith, zero, add-one}
use Rattle.generation.proofs.Words.{name_cmp, All, Less, cases_Bool, All-append, All-map, All-head, All-tail, length-map, Bytes, PathNames, path_cmp, same_name, same_path, Tree, IsTree, Nesting, Empty, FileThen, FolderThen, stands_in, stands_at, in_file, nested, IsAfter, IsNesting, name_cmp-refl, same_name-is, rises_tree, nested-flat, below, spots_in, spots_of, gateway_spot, AreRising, object_for, walk, node_at, Spot, All-nil, range_with_len, length-range_with_len, map-append}
use Rattle.std.proofs.lemmas.Simd.{map-map}
use Rattle.path_tree.specs.Trees.{Node}
use Rattle.generation.specs.Publication.{count_in}
use Rattle.generation.specs.Standing.{object_at}
use Rattle.path_tree.proofs.CallerLemmas.{paths_differ, less_differ}

-- an object as the folder of its own name has it: what stands in a folder is such an object with those in it, below its name
abbrev here : Bytes → Option Bytes → ℕ → ℕ → Spot
here n content parent next = record { path = []; name = n; content = content; number = next; parent = Some parent }

range_both : (a n m : ℕ) → range_with_len a n ++ range_with_len (a + n) m ≡ range_with_len a (n + m)
range_both a zero m = let e : a + 0 ≡ a = omega arith in let k : m ≡ 0 + m = omega arith in λ i. range_with_len (e i) (k i)
range_both a (suc n) m =
    let e : a + suc n ≡ a + 1 + n = omega arith in
    let k : suc (n + m) ≡ suc n + m = omega arith in
    (λ i. a ∷ (range_with_len (a + 1) n ++ range_with_len (e i) m)) ∙ ap (λ l. a ∷ l) (range_both (a + 1) n m) ∙ ap (range_with_len a) k

-- objects are numbered one after another
pub numbered : (parent next : ℕ) (g : Nesting) → map (λ s. s.number) (spots_in parent next g) ≡ range_with_len next (count_in g)
numbered parent next Empty = refl
numbered parent next (FileThen n b rest) = λ i. next ∷ (numbered parent (suc next) rest ∙ (λ j. range_with_len (sym (add-one next) j) (count_in rest))) i
numbered parent next (FolderThen n made inside rest) =
    let down = spots_in next (suc next) inside in
    let more = spots_in parent (suc (next + count_in inside)) rest in
    let e : suc (next + count_in inside) ≡ suc next + count_in inside = omega arith in
    λ i. next ∷ (map-append (λ s. s.number) (map (below n) down) more ∙ (λ j. (map-map (λ s. s.number) (below n) down ∙ numbered next (suc next) inside) j ++ numbered parent (e j) rest j)
    ∙ range_both (suc next) (count_in inside) (count_in rest) ∙ (λ j. range_with_len (sym (add-one next) j) (count_in inside + count_in rest))) i

pub length-spots : (parent next : ℕ) (g : Nesting) → length (spots_in parent next g) ≡ count_in g
length-spots parent next g = sym (length-map (spots_in parent next g) (λ (s : Spot). s.number)) ∙ ap length (numbered parent next g) ∙ length-range_with_len next (count_in g)

-- ---- the order of paths, and the object of a path

pub folder_stands : (m : Bytes) (made : Bool) (inside rest : Nesting) (n : Bytes) (q : PathNames) → stands_in (FolderThen m made inside rest) n q ≡ cond (same_name n m) (stands_at inside q) (stands_in rest n q)
folder_stands m made inside rest n [] = refl
folder_stands m made inside rest n (k ∷ ks) = refl

-- paths of the name stand before the object
abbrev IsPast : Bytes → Spot → Type 0
IsPast n s = (q : PathNames) → path_cmp (n ∷ q) s.path ≡ Less

-- what is said of the objects in a folder: they come after a name, they rise, and what stands at a path has its object
pub record Stands (After : Bytes → Type 0) (at : Bytes → PathNames → Node) (ss : List Spot) : Type 0 where
  pub past : (n : Bytes) → After n → All (IsPast n) ss
  pub rising : AreRising (gateway_spot ∷ ss)
  pub each : (n : Bytes) (q : PathNames) → object_at ss (n ∷ q) ≡ object_for (at n q)

none_past : (n : Bytes) (q : PathNames) (ss : List Spot) → All (IsPast n) ss → object_at ss (n ∷ q) ≡ None
none_past n q [] past = refl
none_past n q (s ∷ ss) past = rw (paths_differ (n ∷ q) s.path (less_differ (n ∷ q) s.path (All-head (IsPast n) s ss past q))) (none_past n q ss (All-tail (IsPast n) s ss past))

other_name : (n m : Bytes) (q : PathNames) (ss ys : List Spot) → same_name n m ≡ false → object_at (map (below m) ss ++ ys) (n ∷ q) ≡ object_at ys (n ∷ q)
other_name n m q [] ys e = refl
other_name n m q (s ∷ ss) ys e = rw e (other_name n m q ss ys e)

own_name : (n m : Bytes) (q : PathNames) (ss ys : List Spot) → same_name n m ≡ true → All (IsPast m) ys → object_at (map (below m) ss ++ ys) (n ∷ q) ≡ object_at ss q
own_name n m q [] ys e past = none_past n q ys (subst (λ (k : Bytes). All (IsPast k) ys) (sym (same_name-is n m e)) past)
own_name n m q (s ∷ ss) ys e past = rw e (ap (λ r. cond (same_path q s.path) (Some s.content) r) (own_name n m q ss ys e past))

-- with what stands at a name and below it before what comes after the name
named : (m : Bytes) (own ys : List Spot) (node : PathNames → Node) (rest : Nesting) → AreRising own → ((q : PathNames) → object_at own q ≡ object_for (node q)) → IsAfter m rest
    → Stands (λ n. IsAfter n rest) (stands_in rest) ys
    → Stands (λ n. (name_cmp n m ≡ Less) × IsAfter n rest) (λ n q. cond (same_name n m) (node q) (stands_in rest n q)) (map (below m) own ++ ys)
named m own ys node rest rises at after later = record {
  past = λ n first. All-append (IsPast n) (map (below m) own) ys (All-map (IsPast n) (below m) own (λ i d lt q. rw first.0 refl)) (later.past n first.1);
  rising = (All-append FromTop (map (below m) own) ys (All-map FromTop (below m) own (λ i d lt. refl)) later.rising.0, order own rises);
  each = λ n q. elim (cases_Bool (same_name n m)) [
    | inl e ↦ own_name n m q own ys e (later.past m after) ∙ at q ∙ rw e refl
    | inr e ↦ other_name n m q own ys e ∙ later.each n q ∙ rw e refl
  ];
} where
  FromTop : Spot → Type 0
  FromTop r = path_cmp [] r.path ≡ Less

  order : (ss : List Spot) → AreRising ss → AreRising (map (below m) ss ++ ys)
  order [] down = later.rising.1
  order (s ∷ ss) down = (
    All-append (λ r. path_cmp (m ∷ s.path) r.path ≡ Less) (map (below m) ss) ys
        (All-map (λ r. path_cmp (m ∷ s.path) r.path ≡ Less) (below m) ss (λ i d lt. rw (name_cmp-refl m) (down.0 i d lt))) (λ i d lt. later.past m after i d lt s.path),
    order ss down.1,
  )

-- a folder's object with those in it
whole : (ss : List Spot) (g : Nesting) → ((n : Bytes) (q : PathNames) → object_at ss (n ∷ q) ≡ object_for (stands_in g n q)) → (q : PathNames) → object_at (gateway_spot ∷ ss) q ≡ object_for (stands_at g q)
whole ss g each [] = refl
whole ss g each (n ∷ q) = each n q

file_stands : (m b : Bytes) (parent next : ℕ) (q : PathNames) → object_at (here m (Some b) parent next ∷ []) q ≡ object_for (in_file b q)
file_stands m b parent next [] = refl
file_stands m b parent next (k ∷ ks) = refl

stands : (parent next : ℕ) (g : Nesting) → IsNesting g → Stands (λ n. IsAfter n g) (stands_in g) (spots_in parent next g)
stands parent next Empty nesting = record { past = λ n after. All-nil (IsPast n); rising = (All-nil (λ r. path_cmp [] r.path ≡ Less), tt); each = λ n q. refl }
stands parent next (FileThen m b rest) nesting =
    let own = here m (Some b) parent next in
    named m (own ∷ []) (spots_in parent (suc next) rest) (in_file b) rest (All-nil (λ r. path_cmp [] r.path ≡ Less), tt) (file_stands m b parent next) nesting.0 (stands parent (suc next) rest nesting.1)
stands parent next (FolderThen m made inside rest) nesting =
    let down = spots_in next (suc next) inside in
    let more = suc (next + count_in inside) in
    let below' = stands next (suc next) inside nesting.1 in
    let both = named m (here m None parent next ∷ down) (spots_in parent more rest) (stands_at inside) rest below'.rising (whole down inside below'.each) nesting.2 (stands parent more rest nesting.3) in
    record { past = both.past; rising = both.rising; each = λ n q. both.each n q ∙ ap object_for (sym (folder_stands m made inside rest n q)) }

all_stand : (t : Tree) → IsTree t → Stands (λ n. IsAfter n (nested t)) (stands_in (nested t)) (spots_in 0 1 (nested t))
all_stand t tree = stands 0 1 (nested t) (nested-flat t (rises_tree t tree)).1

pub rising_all : (t : Tree) → IsTree t → AreRising (spots_of t)
rising_all t tree = (all_stand t tree).rising

pub all_stands : (t : Tree) → IsTree t → (p : PathNames) → object_at (spots_of t) p ≡ object_for (node_at t p)
all_stands t tree p = whole (spots_in 0 1 (nested t)) (nested t) (all_stand t tree).each p ∙ ap object_for (sym (walk t p tree))
