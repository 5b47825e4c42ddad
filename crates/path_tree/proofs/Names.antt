-- A folder's listing: the next names below it, each once, in byte order.
use Rattle.std.proofs.Common.{◌≡◌, ◌⊎◌, suc, zero, Bool, true, false, cond, List, [], ◌∷◌, Option, Some, None, refl, ap, sym, ◌∙◌, subst, inl, inr, arith}
use Rattle.std.specs.declared.cmp.Ordering.{Ordering}
use Rattle.std.specs.declared.cmp.Ordering.TheVariants.{Less, Equal, Greater}
use Rattle.std.specs.Ordering.{is_lt, ordering_then, ordering_reverse}
use Rattle.std.specs.Cmp.{IsEquivalence}
use Rattle.std.specs.List.{AllPairs, AllByRecursion, Any, Contains, dedup, dedup_from, cons_option}
use Rattle.std.proofs.lemmas.List.Elements.{All-from_recursion}
use Rattle.std.proofs.lemmas.List.Kept.{Contains-from_dedup, Contains-dedup}
use Rattle.std.proofs.lemmas.Cmp.{nat_list_eq_equiv}
use Rattle.path_tree.specs.Paths.{Bytes, PathNames, name_cmp, path_cmp, same_name, next_name}
use Rattle.path_tree.specs.Trees.{Tree, IsTree, names_below, IsListing}
use Rattle.path_tree.proofs.Order.{true_or_false, same_name-is, same_name-refl, name_total, name_cmp-is, name_cmp-refl}
use Rattle.path_tree.proofs.Rising.{Item, Rises, Apart, rises_tree}
use Rattle.path_tree.proofs.Listing.{names_in}

-- a name that isn't less than another is it or stands after it
not_less : (m n : Bytes) → is_lt (name_cmp n m) ≡ false → (n ≡ m) ⊎ (name_cmp m n ≡ Less)
not_less m n e = go (name_cmp n m) refl e where
  go : (o : Ordering) → name_cmp n m ≡ o → is_lt o ≡ false → (n ≡ m) ⊎ (name_cmp m n ≡ Less)
  go Less f e = cc
  go Equal f e = inl (name_cmp-is n m f)
  go Greater f e = inr (name_total.antisymm m n ∙ ap ordering_reverse f)

abbrev Rising : List Bytes → Type 0
Rising [] = Unit {0}
Rising (m ∷ ms) = AllByRecursion (λ n. is_lt (name_cmp n m) ≡ false) ms × Rising ms

abbrev Climbing : List Bytes → Type 0
Climbing [] = Unit {0}
Climbing (m ∷ ms) = AllByRecursion (λ n. name_cmp m n ≡ Less) ms × Climbing ms

each_dedup_from : (P : Bytes → Type 0) (k : Bytes) (ms : List Bytes) → P k → AllByRecursion P ms → AllByRecursion P (dedup_from same_name k ms)
each_dedup_from P k [] first rest = (first, tt)
each_dedup_from P k (m ∷ ms) first rest = go (same_name m k) (each_dedup_from P k ms first rest.1) (each_dedup_from P m ms rest.0 rest.1) where
  go : (b : Bool) → AllByRecursion P (dedup_from same_name k ms) → AllByRecursion P (dedup_from same_name m ms) → AllByRecursion P (cond b (dedup_from same_name k ms) (k ∷ dedup_from same_name m ms))
  go true kept new = kept
  go false kept new = (first, new)

less_than_all : (k m : Bytes) (ms : List Bytes) → name_cmp k m ≡ Less → AllByRecursion (λ n. is_lt (name_cmp n m) ≡ false) ms → AllByRecursion (λ n. name_cmp k n ≡ Less) ms
less_than_all k m [] less h = tt
less_than_all k m (n ∷ ns) less h = (go (not_less m n h.0), less_than_all k m ns less h.1) where
  go : (n ≡ m) ⊎ (name_cmp m n ≡ Less) → name_cmp k n ≡ Less
  go (inl same) = subst (λ (x : Bytes). name_cmp k x ≡ Less) (sym same) less
  go (inr more) = name_total.trans k m n less more

climbs : (k : Bytes) (ms : List Bytes) → AllByRecursion (λ n. is_lt (name_cmp n k) ≡ false) ms → Rising ms → Climbing (dedup_from same_name k ms)
climbs k [] above r = (tt, tt)
climbs k (m ∷ ms) above r = go (true_or_false (same_name m k)) (climbs k ms above.1 r.1) (climbs m ms r.0 r.1) where
  go : (same_name m k ≡ true) ⊎ (same_name m k ≡ false) → Climbing (dedup_from same_name k ms) → Climbing (dedup_from same_name m ms) → Climbing (cond (same_name m k) (dedup_from same_name k ms) (k ∷ dedup_from same_name m ms))
  go (inl is) kept new = rw is kept
  go (inr isnt) kept new = rw isnt (each_dedup_from (λ n. name_cmp k n ≡ Less) m ms (less (not_less k m above.0)) (less_than_all k m ms (less (not_less k m above.0)) r.0), new)
    where
      less : (m ≡ k) ⊎ (name_cmp k m ≡ Less) → name_cmp k m ≡ Less
      less (inl same) = let self : same_name m k ≡ true = subst (λ (x : Bytes). same_name m x ≡ true) same (same_name-refl m) in cc
      less (inr l) = l

dedup-climbs : (ms : List Bytes) → Rising ms → Climbing (dedup same_name ms)
dedup-climbs [] r = tt
dedup-climbs (m ∷ ms) r = climbs m ms r.0 r.1

pairs : (ms : List Bytes) → Climbing ms → AllPairs (λ m n. name_cmp m n ≡ Less) ms
pairs [] c i j d up within = absurd (omega arith)
pairs (m ∷ ms) c i zero d up within = absurd (omega arith)
pairs (m ∷ ms) c zero (suc j) d up within = All-from_recursion (λ n. name_cmp m n ≡ Less) ms c.0 j d (omega arith)
pairs (m ∷ ms) c (suc i) (suc j) d up within = pairs ms c.1 i j d (omega arith) (omega arith)

-- ---- the names of entries in the order of paths rise

first_less : (o r : Ordering) → ordering_then o r ≡ Less → is_lt (ordering_reverse o) ≡ false
first_less Less r e = refl
first_less Equal r e = refl
first_less Greater r e = cc

and_then : {X : Type 0} (b : Bool) (o : Option X) (x : X) → cond b o None ≡ Some x → (b ≡ true) × (o ≡ Some x)
and_then true o x e = (refl, e)
and_then false o x e = cc

next-rises : (p q r : PathNames) (m n : Bytes) → path_cmp q r ≡ Less → next_name p q ≡ Some m → next_name p r ≡ Some n → is_lt (name_cmp n m) ≡ false
next-rises [] [] r m n less e f = cc
next-rises [] (a ∷ as') [] m n less e f = cc
next-rises [] (a ∷ as') (b ∷ bs) m n less e f =
    let same_m : a ≡ m = cc in
    let same_n : b ≡ n = cc in
    let P : Bytes → Bytes → Type 0 = λ x y. is_lt (name_cmp y x) ≡ false in
    let first : P a b = ap is_lt (name_total.antisymm b a) ∙ first_less (name_cmp a b) (path_cmp as' bs) less in
    subst (P m) same_n (subst (λ (x : Bytes). P x b) same_m first)
next-rises (k ∷ ks) [] r m n less e f = cc
next-rises (k ∷ ks) (a ∷ as') [] m n less e f = cc
next-rises (k ∷ ks) (a ∷ as') (b ∷ bs) m n less e f =
    let in_a = and_then (same_name k a) (next_name ks as') m e in
    let in_b = and_then (same_name k b) (next_name ks bs) n f in
    let is_a = same_name-is k a in_a.0 in
    let is_b = same_name-is k b in_b.0 in
    let same : name_cmp a b ≡ Equal = subst (λ (x : Bytes). name_cmp x b ≡ Equal) is_a (subst (λ (x : Bytes). name_cmp k x ≡ Equal) is_b (name_cmp-refl k)) in
    let rest : path_cmp as' bs ≡ Less = sym (ap (λ o. ordering_then o (path_cmp as' bs)) same) ∙ less in
    next-rises ks as' bs m n rest in_a.1 in_b.1

rises_after : (p : PathNames) (e : Item) (m : Bytes) (es : Tree) → next_name p e.0 ≡ Some m → AllByRecursion (Apart e) es → AllByRecursion (λ n. is_lt (name_cmp n m) ≡ false) (names_in p es)
rises_after p e m [] is h = tt
rises_after p e m (f ∷ fs) is h = go (next_name p f.0) refl (rises_after p e m fs is h.1) where
  go : (o : Option Bytes) → next_name p f.0 ≡ o → AllByRecursion (λ n. is_lt (name_cmp n m) ≡ false) (names_in p fs) → AllByRecursion (λ n. is_lt (name_cmp n m) ≡ false) (cons_option o (names_in p fs))
  go None there rest = rest
  go (Some n) there rest = (next-rises p e.0 f.0 m n h.0.0 is there, rest)

names_in-rise : (p : PathNames) (t : Tree) → Rises t → Rising (names_in p t)
names_in-rise p [] r = tt
names_in-rise p (e ∷ es) r = go (next_name p e.0) refl (names_in-rise p es r.1.1) where
  go : (o : Option Bytes) → next_name p e.0 ≡ o → Rising (names_in p es) → Rising (cons_option o (names_in p es))
  go None there rest = rest
  go (Some m) there rest = (rises_after p e m es there r.1.0, rest)

-- ---- which names they are

only_more : (P : Item → Type 0) (e : Item) (es : Tree) → Any P es → Any P (e ∷ es)
only_more P e es (k, x, within, is, holds) = (suc k, x, omega arith, is, holds)

only_names : (p : PathNames) (t : Tree) (n : Bytes) → Contains (names_in p t) n → Any (λ e. next_name p e.0 ≡ Some n) t
only_names p [] n (k, within, is) = absurd (omega arith)
only_names p (e ∷ es) n c = go (next_name p e.0) refl (only_names p es n) c where
  go : (o : Option Bytes) → next_name p e.0 ≡ o → (Contains (names_in p es) n → Any (λ f. next_name p f.0 ≡ Some n) es) → Contains (cons_option o (names_in p es)) n → Any (λ f. next_name p f.0 ≡ Some n) (e ∷ es)
  go None there rest c = only_more (λ f. next_name p f.0 ≡ Some n) e es (rest c)
  go (Some m) there rest (zero, within, is) = (zero, e, omega arith, refl, there ∙ ap Some is)
  go (Some m) there rest (suc k, within, is) = only_more (λ f. next_name p f.0 ≡ Some n) e es (rest (k, omega arith, is))

every_name : (p : PathNames) (t : Tree) (n : Bytes) → Any (λ e. next_name p e.0 ≡ Some n) t → Contains (names_in p t) n
every_name p [] n (k, x, within, is, holds) = absurd (omega arith)
every_name p (e ∷ es) n a = go (next_name p e.0) refl (every_name p es n) a where
  first : (x : Item) → e ≡ x → next_name p x.0 ≡ Some n → next_name p e.0 ≡ Some n
  first x is holds = subst (λ (y : Item). next_name p y.0 ≡ Some n) (sym is) holds

  go : (o : Option Bytes) → next_name p e.0 ≡ o → (Any (λ f. next_name p f.0 ≡ Some n) es → Contains (names_in p es) n) → Any (λ f. next_name p f.0 ≡ Some n) (e ∷ es) → Contains (cons_option o (names_in p es)) n
  go None there rest (zero, x, within, is, holds) = let found = first x is holds in cc
  go None there rest (suc k, x, within, is, holds) = rest (k, x, omega arith, is, holds)
  go (Some m) there rest (zero, x, within, is, holds) = let found = first x is holds in let same : m ≡ n = cc in (zero, omega arith, same)
  go (Some m) there rest (suc k, x, within, is, holds) = let later = rest (k, x, omega arith, is, holds) in (suc later.0, omega arith, later.2)

names_equiv : IsEquivalence same_name
names_equiv = record {
  refl = same_name-refl;
  symm = nat_list_eq_equiv.symm;
  congr = λ x y z e. ap (λ w. same_name w z) (same_name-is x y e);
}

pub listing : (t : Tree) (p : PathNames) → IsTree t → IsListing t p (names_below t p)
listing t p h = record {
  in_order = pairs (names_below t p) (dedup-climbs (names_in p t) (names_in-rise p t (rises_tree t h)));
  only = λ n c. only_names p t n (Contains-from_dedup same_name (names_in p t) n c);
  every = λ n a. Contains-dedup names_equiv same_name-is (names_in p t) n (every_name p t n a);
}
