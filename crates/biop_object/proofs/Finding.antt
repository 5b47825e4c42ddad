-- The first element of a name in a list, and what is found by it.
use Rattle.std.proofs.Common.{◌≡◌, ℕ, zero, suc, ◌+◌, ◌<◌, Bool, true, false, not, ◌||◌, cond, nat_eq, List, [], ◌∷◌, ◌++◌, length, map, get_or, take, Option, Some, None, refl, sym, ap, subst, ◌∙◌, arith}
use Rattle.std.proofs.lemmas.Option.{same_Some}
use Rattle.std.proofs.lemmas.List.{get_or-map, length-map}
use Rattle.std.proofs.lemmas.Simd.{map-map}
use Rattle.std.proofs.lemmas.Map.Text.{is_eq-slice_cmp}
use Rattle.std.proofs.Math.Dec.{eqb-suc-suc, eqb-zero-suc}
use Rattle.std.specs.Prelude.{is_some, IsSome, IfSome, option_and_then, slice_get}
use Rattle.std.specs.List.{list_any, find}
use Rattle.std.specs.Option.{option_map, option_eq, option_map_or}
use Rattle.std.specs.Ordering.{nat_cmp, eq_by_cmp}
use Rattle.std.specs.Cmp.Lexicographic.{slice_cmp}
use Rattle.std.specs.BTreeMap.{BTreeMap, get_by, is_at, Updates}
use Rattle.std.specs.Map.{KeepsOthers}
use Rattle.std.proofs.lemmas.Cmp.{eq_by_cmp_equiv}
use Rattle.std.specs.Global.{Vec}
use Rattle.path_tree.specs.Paths.{Bytes, same_name}
use Rattle.path_tree.proofs.CallerLemmas.{same_name-is, same_name-refl, same_name-flips, name_total}
use Rattle.biop_object.specs.Labels.{is_first_in}
use Rattle.biop_object.specs.Inner.Labels.{first_at, IsFirsts}
use Rattle.biop_object.specs.Objects.{Shape, IsFile, IsFolder, IsOther, BindingFields, view_binding, Object}
use Rattle.biop_object.specs.Inner.Index.{view_kind, view_index}
use Rattle.biop_object.specs.ObjectReading.{found_shape, found_from, shape_bindings}
use Rattle.biop_object.specs.declared.module.Indexed.{Indexed}
use Rattle.biop_object.specs.declared.module.Kind.{Kind}
use Rattle.biop_object.specs.declared.module.Kind.TheVariants as kinds
use Rattle.biop_object.specs.declared.module.Found.{Found}
use Rattle.biop_object.specs.declared.module.Found.TheVariants as found
use Rattle.biop_object.specs.declared.module.Binding.{Binding}

-- ---- one name more

abbrev or_here : Bool → ℕ → Option ℕ → Option ℕ
or_here t n (Some k) = Some k
or_here t n None = cond t (Some n) None

or_not : (n : ℕ) (f : Option ℕ) → f ≡ or_here false n f
or_not n (Some k) = refl
or_not n None = refl

first_more : (q n : Bytes) (ns : List Bytes) → first_at q (ns ++ n ∷ []) ≡ or_here (same_name q n) (length ns) (first_at q ns)
first_more q n [] = refl
first_more q n (m ∷ ms) = rw (first_more q n ms) (go (same_name q m) (first_at q ms) (same_name q n)) where
  go : (here : Bool) (f : Option ℕ) (t : Bool) → cond here (Some 0) (option_map suc (or_here t (length ms) f)) ≡ or_here t (suc (length ms)) (cond here (Some 0) (option_map suc f))
  go true f t = refl
  go false (Some k) t = refl
  go false None true = refl
  go false None false = refl

pub known_name : (ns : List Bytes) (n : Bytes) (m : BTreeMap (Vec ℕ) ℕ) → IsFirsts ns m → is_some (get_by (λ k. slice_cmp nat_cmp n k.items) m) ≡ true → IsFirsts (ns ++ n ∷ []) m
known_name ns n m so_far there = λ q. so_far q ∙ go (same_name q n) (first_at q ns) (λ e. ap (λ (b : Bytes). is_some (first_at b ns)) (same_name-is q n e) ∙ ap is_some (sym (so_far n)) ∙ there) ∙ sym (first_more q n ns) where
  go : (t : Bool) (f : Option ℕ) → (t ≡ true → is_some f ≡ true) → f ≡ or_here t (length ns) f
  go t (Some k) h = refl
  go false None h = refl
  go true None h = let some = h refl in cc

is_none : (f : Option ℕ) → is_some f ≡ false → f ≡ None
is_none (Some k) e = absurd cc
is_none None e = refl

keeps_others : (m now : BTreeMap (Vec ℕ) ℕ) (n q : Bytes) → same_name q n ≡ false → KeepsOthers (eq_by_cmp (λ x y. slice_cmp nat_cmp x.items y.items)) (is_at (λ j. slice_cmp nat_cmp n j.items)) m.entries now.entries
    → get_by (λ j. slice_cmp nat_cmp q j.items) now ≡ get_by (λ j. slice_cmp nat_cmp q j.items) m
unfolding KeepsOthers
keeps_others m now n q other h = h (is_at (λ j. slice_cmp nat_cmp q j.items)) (λ x y. (eq_by_cmp_equiv name_total).congr q x.items y.items) λ j e.
    is_eq-slice_cmp q j.items ∙ ap (same_name q) (sym (same_name-is n j.items (sym (is_eq-slice_cmp n j.items) ∙ e))) ∙ other

pub new_name : (ns : List Bytes) (n : Bytes) (m now : BTreeMap (Vec ℕ) ℕ) (k : Vec ℕ) (at : ℕ) → IsFirsts ns m → k.items ≡ n → at ≡ length ns → is_some (get_by (λ j. slice_cmp nat_cmp n j.items) m) ≡ false
    → Updates (λ x y. slice_cmp nat_cmp x.items y.items) m now k (Some at) → IsFirsts (ns ++ n ∷ []) now
new_name ns n m now k at so_far is place none h = λ q. go q (same_name q n) refl where
  here : get_by (λ j. slice_cmp nat_cmp n j.items) now ≡ first_at n (ns ++ n ∷ [])
  here = let no = is_none (first_at n ns) (ap is_some (sym (so_far n)) ∙ none) in let same = same_name-refl n in rw (first_more n n ns, same, no, ← place, ← is) h.1

  go : (q : Bytes) (t : Bool) → same_name q n ≡ t → get_by (λ j. slice_cmp nat_cmp q j.items) now ≡ first_at q (ns ++ n ∷ [])
  go q true e = subst (λ (b : Bytes). get_by (λ j. slice_cmp nat_cmp b j.items) now ≡ first_at b (ns ++ n ∷ [])) (sym (same_name-is q n e)) here
  go q false e = keeps_others m now n q e (rw is at h.3) ∙ so_far q ∙ or_not (length ns) (first_at q ns) ∙ ap (λ (t : Bool). or_here t (length ns) (first_at q ns)) (sym e) ∙ sym (first_more q n ns)

-- ---- a look from the front on meets the first of a name, or none

pub first_inside : {X : Type 0} (label : X → Bytes) (n : Bytes) (xs : List X) → IfSome (first_at n (map label xs)) (λ i. i < length xs)
first_inside label n [] = tt
first_inside label n (x ∷ xs) = go (same_name n (label x)) (first_at n (map label xs)) (first_inside label n xs) where
  go : (t : Bool) (f : Option ℕ) → IfSome f (λ i. i < length xs) → IfSome (cond t (Some 0) (option_map suc f)) (λ i. i < suc (length xs))
  go true f h = omega arith
  go false (Some k) h = omega (arith, h)
  go false None h = tt

suc_some : (k i : ℕ) → Some (suc k) ≡ Some (suc i) → Some k ≡ Some i
suc_some k i e = let same = same_Some (suc k) (suc i) e in ap (λ (j : ℕ). Some j) (omega (arith, same))

-- a look that goes on past other names
module _ {X R : Type 0} (label : X → Bytes) (n : Bytes) (look : ℕ → List X → R) (hit : ℕ → X → R) (none : R)
    (ends : (j : ℕ) → look j [] ≡ none) (goes : (j : ℕ) (x : X) (xs : List X) → look j (x ∷ xs) ≡ cond (same_name n (label x)) (hit j x) (look (suc j) xs)) where
  pub finds : (j : ℕ) (xs : List X) (i k : ℕ) (x : X) → k ≡ j + i → first_at n (map label xs) ≡ Some i → x ≡ get_or xs i x → look j xs ≡ hit k x
  finds j [] i k x place e is = absurd cc
  finds j (y ∷ ys) i k x place e is = goes j y ys ∙ go (same_name n (label y)) (first_at n (map label ys)) i place e is (λ l. finds (suc j) ys l k x) where
    go : (t : Bool) (f : Option ℕ) (i : ℕ) → k ≡ j + i → cond t (Some 0) (option_map suc f) ≡ Some i → x ≡ get_or (y ∷ ys) i x
        → ((l : ℕ) → k ≡ suc j + l → f ≡ Some l → x ≡ get_or ys l x → look (suc j) ys ≡ hit k x) → cond t (hit j y) (look (suc j) ys) ≡ hit k x
    go true f zero place e is rest = ap (hit j) (sym is) ∙ ap (λ (l : ℕ). hit l x) (omega (arith, place))
    go true f (suc i) place e is rest = absurd cc
    go false (Some l) zero place e is rest = absurd cc
    go false (Some l) (suc i) place e is rest = rest i (omega (arith, place)) (suc_some l i e) is
    go false None i place e is rest = absurd cc

  pub misses : (j : ℕ) (xs : List X) → first_at n (map label xs) ≡ None → look j xs ≡ none
  misses j [] e = ends j
  misses j (y ∷ ys) e = goes j y ys ∙ go (same_name n (label y)) (first_at n (map label ys)) e (misses (suc j) ys) where
    go : (t : Bool) (f : Option ℕ) → cond t (Some 0) (option_map suc f) ≡ None → (f ≡ None → look (suc j) ys ≡ none) → cond t (hit j y) (look (suc j) ys) ≡ none
    go true f e rest = absurd cc
    go false (Some k) e rest = absurd cc
    go false None e rest = rest refl

abbrev objects_look : Bytes → Option ℕ → ℕ → List Indexed → Found
objects_look key stop j objects = found_from j key (view_index objects) stop

pub object_found : (key : Bytes) (stop : Option ℕ) (objects : List Indexed) (i : ℕ) (o : Indexed) → first_at key (map (λ x. x.key.items) objects) ≡ Some i → o ≡ get_or objects i o → found_from 0 key (view_index objects) stop ≡ found_shape i (view_kind o.kind)
object_found key stop objects i o = finds (λ x. x.key.items) key (objects_look key stop) (λ j x. found_shape j (view_kind x.kind)) (option_map_or (λ place. found.Bad place) stop found.Missing) (λ j. refl) (λ j x xs. refl) 0 objects i i o (omega arith)

pub object_missed : (key : Bytes) (stop : Option ℕ) (objects : List Indexed) → first_at key (map (λ x. x.key.items) objects) ≡ None → found_from 0 key (view_index objects) stop ≡ option_map_or (λ place. found.Bad place) stop found.Missing
object_missed key stop = misses (λ x. x.key.items) key (objects_look key stop) (λ j x. found_shape j (view_kind x.kind)) (option_map_or (λ place. found.Bad place) stop found.Missing) (λ j. refl) (λ j x xs. refl) 0

abbrev bindings_look : Bytes → ℕ → List Binding → Option BindingFields
bindings_look n j bindings = find (λ b. same_name n b.name) (map view_binding bindings)

pub binding_found : (n : Bytes) (bindings : List Binding) (i : ℕ) (b : Binding) → first_at n (map (λ x. x.name) bindings) ≡ Some i → b ≡ get_or bindings i b → find (λ b. same_name n b.name) (map view_binding bindings) ≡ Some (view_binding b)
binding_found n bindings i b = finds (λ x. x.name) n (bindings_look n) (λ j x. Some (view_binding x)) None (λ j. refl) (λ j x xs. refl) 0 bindings i i b (omega arith)

pub binding_missed : (n : Bytes) (bindings : List Binding) → first_at n (map (λ x. x.name) bindings) ≡ None → find (λ b. same_name n b.name) (map view_binding bindings) ≡ None
binding_missed n = misses (λ x. x.name) n (bindings_look n) (λ j x. Some (view_binding x)) None (λ j. refl) (λ j x xs. refl) 0

pub alone : (n : Bytes) (ns : List Bytes) (i : ℕ) → i < length ns → n ≡ get_or ns i [] → option_eq nat_eq (first_at n ns) (Some i) ≡ not (list_any (λ m. same_name m n) (take i ns))
alone n [] i lt is = absurd (omega (arith, lt))
alone n (m ∷ ms) zero lt is = let same : same_name n m ≡ true = ap (same_name n) (sym is) ∙ same_name-refl n in rw same refl
alone n (m ∷ ms) (suc i) lt is = go (same_name n m) (same_name m n) (first_at n ms) (same_name-flips n m) (alone n ms i (omega (arith, lt)) is) where
  go : (t u : Bool) (f : Option ℕ) → t ≡ u → option_eq nat_eq f (Some i) ≡ not (list_any (λ m. same_name m n) (take i ms))
      → option_eq nat_eq (cond t (Some 0) (option_map suc f)) (Some (suc i)) ≡ not (u || list_any (λ m. same_name m n) (take i ms))
  go true true f e h = rw (eqb-zero-suc i) refl
  go false false (Some k) e h = eqb-suc-suc k i ∙ h
  go false false None e h = h
  go true false f e h = absurd cc
  go false true f e h = absurd cc

pub stands_first : (bindings : List Binding) (i : ℕ) (b : Binding) (first : Option ℕ) → i < length bindings → b ≡ get_or bindings i b → first ≡ first_at b.name (map (λ x. x.name) bindings)
    → option_eq nat_eq first (Some i) ≡ is_first_in (map (λ f. f.name) (map view_binding bindings)) i
stands_first bindings i b first lt is e =
    let named : b.name ≡ get_or (map (λ x. x.name) bindings) i [] = ap (λ (x : Binding). x.name) is ∙ sym (get_or-map (λ x. x.name) bindings i b [] lt) in
    rw (map-map (λ (f : BindingFields). f.name) view_binding bindings, e, ← named) (alone b.name (map (λ x. x.name) bindings) i (rw (length-map bindings (λ x. x.name)) lt) named)

-- ---- the bindings of a folder

pub some_below : (objects : List Indexed) (k : ℕ) → IsSome (option_and_then (λ (o : Object). shape_bindings o.shape) (slice_get (view_index objects) k)) → k < length objects
some_below [] k h = absurd cc
some_below (o ∷ objects) zero h = omega arith
some_below (o ∷ objects) (suc k) h = let lt = some_below objects k h in omega arith

pub bindings_there : (objects : List Indexed) (k : ℕ) (o : Indexed) → k < length objects → o ≡ get_or objects k o → option_and_then (λ (o : Object). shape_bindings o.shape) (slice_get (view_index objects) k) ≡ shape_bindings (view_kind o.kind)
bindings_there [] k o lt at = absurd (omega arith)
bindings_there (x ∷ objects) zero o lt at = ap (λ (i : Indexed). shape_bindings (view_kind i.kind)) (sym at)
bindings_there (x ∷ objects) (suc k) o lt at = bindings_there objects k o (omega arith) at

pub kind_is_folder : (kind : Kind) → IsSome (shape_bindings (view_kind kind)) → ((bindings : List Binding) → kind ≡ kinds.Folder bindings → ⊥) → ⊥
kind_is_folder (kinds.Folder bindings) h never = never bindings refl
kind_is_folder (kinds.File span) h never = cc
kind_is_folder kinds.Other h never = cc

pub folder_there : (objects : List Indexed) (k : ℕ) (o : Indexed) (bindings : List Binding) → k < length objects → o ≡ get_or objects k o → (get_or objects k o).kind ≡ kinds.Folder bindings → option_and_then (λ (o : Object). shape_bindings o.shape) (slice_get (view_index objects) k) ≡ Some (map view_binding bindings)
folder_there objects k o bindings lt at is = bindings_there objects k o lt at ∙ ap (λ (x : Kind). shape_bindings (view_kind x)) (ap (λ (i : Indexed). i.kind) at ∙ is)

pub never_other : (objects : List Indexed) (k : ℕ) (o : Indexed) → k < length objects → o ≡ get_or objects k o → IsSome (option_and_then (λ (o : Object). shape_bindings o.shape) (slice_get (view_index objects) k))
    → ((bindings : List Binding) → (get_or objects k o).kind ≡ kinds.Folder bindings → ⊥) → ⊥
never_other objects k o lt at some never =
    kind_is_folder o.kind (subst (λ (b : Option (List BindingFields)). IsSome b) (bindings_there objects k o lt at) some) (λ bindings e. never bindings (sym (ap (λ (i : Indexed). i.kind) at) ∙ e))

-- ---- what was found as a folder has bindings

shape_has : (j k : ℕ) (s : Shape) → found_shape j s ≡ found.Folder k → (j ≡ k) × IsSome (shape_bindings s)
shape_has j k (IsFile first n) e = absurd cc
shape_has j k (IsFolder bindings) e = (cc, refl)
shape_has j k IsOther e = absurd cc

pub folder_has : (objects : List Indexed) (i k : ℕ) (o : Indexed) → i < length objects → o ≡ get_or objects i o → found_shape i (view_kind o.kind) ≡ found.Folder k → IsSome (option_and_then (λ (o : Object). shape_bindings o.shape) (slice_get (view_index objects) k))
folder_has objects i k o lt at e =
    let has = shape_has i k (view_kind o.kind) e in
    subst (λ (n : ℕ). IsSome (option_and_then (λ (o : Object). shape_bindings o.shape) (slice_get (view_index objects) n))) has.0 (subst (λ (b : Option (List BindingFields)). IsSome b) (sym (bindings_there objects i o lt at)) has.1)
