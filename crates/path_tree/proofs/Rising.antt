-- A tree's entries by recursion: each stands before those after it, and nothing lies below a file.
use Rattle.std.proofs.Common.{◌≡◌, ◌≢◌, zero, suc, [], ◌∷◌, arith}
use Rattle.std.specs.List.{All, AllPairs, AllByRecursion}
use Rattle.std.specs.declared.cmp.Ordering.TheVariants.{Less}
use Rattle.std.proofs.lemmas.List.Elements.{All-from_recursion, recursion_from_All}
use Rattle.path_tree.specs.Paths.{PathNames, path_cmp, is_below, IsPath}
use Rattle.path_tree.specs.Trees.{Tree, IsTree, IsApart, HasContent, Fits}
use Rattle.path_tree.specs.declared.entry.Entry.{Entry}

abbrev pub Item : Type 0
Item = PathNames × Entry

-- an entry stands before another, and isn't a file above it
abbrev pub Apart : Item → Item → Type 0
Apart e f = (path_cmp e.0 f.0 ≡ Less) × IsApart e.1 (is_below e.0 f.0)

abbrev pub Rises : Tree → Type 0
Rises [] = Unit {0}
Rises (e ∷ es) = (e.0 ≢ []) × (AllByRecursion (Apart e) es × Rises es)

pub rises_from : (t : Tree) → All (λ e. e.0 ≢ []) t → AllPairs (λ e f. path_cmp e.0 f.0 ≡ Less) t → AllPairs (λ e f. IsApart e.1 (is_below e.0 f.0)) t → Rises t
rises_from [] deep order apart = tt
rises_from (e ∷ es) deep order apart = (
  deep 0 e (omega arith),
  (
    recursion_from_All (Apart e) es (λ k d within. (order 0 (suc k) d (omega arith) (omega arith), apart 0 (suc k) d (omega arith) (omega arith))),
    rises_from es (λ k d within. deep (suc k) d (omega arith)) (λ i j d up within. order (suc i) (suc j) d (omega arith) (omega arith)) (λ i j d up within. apart (suc i) (suc j) d (omega arith) (omega arith)),
  ),
)

pub rises_tree : (t : Tree) → IsTree t → Rises t
rises_tree t h = rises_from t (λ k d within. (h.paths k d within).1) h.in_order h.apart

pub order_from : (t : Tree) → Rises t → AllPairs (λ e f. path_cmp e.0 f.0 ≡ Less) t
order_from [] r i j d up within = absurd (omega (arith, within))
order_from (e ∷ es) r i zero d up within = absurd (omega (arith, up))
order_from (e ∷ es) r zero (suc j) d up within = (All-from_recursion (Apart e) es r.1.0 j d (omega (arith, within))).0
order_from (e ∷ es) r (suc i) (suc j) d up within = order_from es r.1.1 i j d (omega (arith, up)) (omega (arith, within))

pub apart_from : (t : Tree) → Rises t → AllPairs (λ e f. IsApart e.1 (is_below e.0 f.0)) t
apart_from [] r i j d up within = absurd (omega (arith, within))
apart_from (e ∷ es) r i zero d up within = absurd (omega (arith, up))
apart_from (e ∷ es) r zero (suc j) d up within = (All-from_recursion (Apart e) es r.1.0 j d (omega (arith, within))).1
apart_from (e ∷ es) r (suc i) (suc j) d up within = apart_from es r.1.1 i j d (omega (arith, up)) (omega (arith, within))

abbrev pub IsItem : Item → Type 0
IsItem e = IsPath e.0 × (e.0 ≢ [])

abbrev pub ItemHas : Item → Type 0
ItemHas e = HasContent e.1

abbrev pub ItemFits : Item → Type 0
ItemFits e = Fits e.1

pub tree_from : (t : Tree) → AllByRecursion IsItem t → AllByRecursion ItemHas t → AllByRecursion ItemFits t → Rises t → IsTree t
tree_from t items contents sizes r = record {
  paths = All-from_recursion IsItem t items;
  in_order = order_from t r;
  apart = apart_from t r;
  contents = All-from_recursion ItemHas t contents;
  sizes = All-from_recursion ItemFits t sizes;
}

pub each_weaker : {P Q : Item → Type 0} (t : Tree) → ((e : Item) → P e → Q e) → AllByRecursion P t → AllByRecursion Q t
each_weaker [] f h = tt
each_weaker (e ∷ es) f h = (f e h.0, each_weaker es f h.1)
