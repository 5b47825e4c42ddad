-- The names in a folder, from the entries after its place.
use Rattle.std.proofs.Common.{◌≡◌, ◌≢◌, ◌⊎◌, ℕ, zero, suc, Bool, Option, cond, ◌+◌, ◌-◌, ◌<◌, ◌≤◌, true, false, List, [], ◌∷◌, ◌++◌, length, drop, take, get_or, Some, None, refl, ap, sym, ◌∙◌, inl, inr, drop-cons, add-one, arith}
use Rattle.std.specs.List.{AllByRecursion, dedup, dedup_from, cons_option}
use Rattle.std.proofs.lemmas.List.{drop_all}
use Rattle.path_tree.specs.Paths.{Bytes, PathNames, same_name, same_path, is_below, next_name}
use Rattle.path_tree.specs.Trees.{Tree, IsTree, next_names, names_below}
use Rattle.path_tree.specs.Inner.Places.{is_before, place_in, beyond, behind, count_below, last_name_is, with_name}
use Rattle.path_tree.proofs.Order.{true_or_false, next_name-none}
use Rattle.path_tree.proofs.Rising.{Item, Rises, rises_tree}
use Rattle.path_tree.proofs.Places.{AllAfter, at_or_after, later, all_after, behind-before, behind-place, before_not_below, not_below_itself, none_below, rest_is}

-- the names that are kept so far, and then what the rest adds to them
abbrev pub joined : List Bytes → List Bytes → List Bytes
joined [] rest = dedup same_name rest
joined (k ∷ []) rest = dedup_from same_name k rest
joined (k ∷ j ∷ js) rest = k ∷ joined (j ∷ js) rest

joined-kept : (names : List Bytes) (n : Bytes) (rest : List Bytes) → last_name_is names n ≡ true → joined names (n ∷ rest) ≡ joined names rest
joined-kept [] n rest e = cc
joined-kept (k ∷ []) n rest e = rw e refl
joined-kept (k ∷ j ∷ js) n rest e = ap (λ l. k ∷ l) (joined-kept (j ∷ js) n rest e)

joined-new : (names : List Bytes) (n : Bytes) (rest : List Bytes) → last_name_is names n ≡ false → joined names (n ∷ rest) ≡ joined (names ++ n ∷ []) rest
joined-new [] n rest e = refl
joined-new (k ∷ []) n rest e = rw e refl
joined-new (k ∷ j ∷ js) n rest e = ap (λ l. k ∷ l) (joined-new (j ∷ js) n rest e)

joined-end : (names : List Bytes) → joined names [] ≡ names
joined-end [] = refl
joined-end (k ∷ []) = refl
joined-end (k ∷ j ∷ js) = ap (λ l. k ∷ l) (joined-end (j ∷ js))

abbrev pub names_in : PathNames → Tree → List Bytes
names_in p t = next_names t p

-- one entry more
pub listed_none : (p : PathNames) (t : Tree) (i : ℕ) (d : Item) (names : List Bytes) → i < length t → next_name p (get_or t i d).0 ≡ None → joined names (names_in p (drop i t)) ≡ joined names (names_in p (drop (i + 1) t))
listed_none p t i d names within e = rw (drop-cons t i d within, e, add-one) refl

joined-with_name : (names : List Bytes) (n : Bytes) (rest : List Bytes) → joined names (n ∷ rest) ≡ joined (with_name names n) rest
joined-with_name names n rest = go (true_or_false (last_name_is names n)) where
  go : (last_name_is names n ≡ true) ⊎ (last_name_is names n ≡ false) → joined names (n ∷ rest) ≡ joined (with_name names n) rest
  go (inl is) = rw is (joined-kept names n rest is)
  go (inr isnt) = rw isnt (joined-new names n rest isnt)

pub listed_some : (p : PathNames) (t : Tree) (i : ℕ) (d : Item) (names : List Bytes) (n : Bytes) → i < length t → next_name p (get_or t i d).0 ≡ Some n → joined names (names_in p (drop i t)) ≡ joined (with_name names n) (names_in p (drop (i + 1) t))
listed_some p t i d names n within e = rw (drop-cons t i d within, e, add-one) (joined-with_name names n (names_in p (drop (suc i) t)))

pub listed_end : (p : PathNames) (t : Tree) (i : ℕ) (names : List Bytes) → length t ≤ i → joined names (names_in p (drop i t)) ≡ names
listed_end p t i names out = rw (drop_all i t out) (joined-end names)

-- an entry that gives a name
pub some_name : (p : PathNames) (t : Tree) (i : ℕ) (d : Item) (n : Bytes) → i < length t → next_name p (get_or t i d).0 ≡ Some n → names_in p t ≢ []
some_name p [] i d n within e = absurd (omega (arith, within))
some_name p (x ∷ xs) zero d n within e = first (next_name p x.0) e where
  first : (o : Option Bytes) → o ≡ Some n → cons_option o (names_in p xs) ≢ []
  first None is = cc
  first (Some m) is = λ none. cc
some_name p (x ∷ xs) (suc i) d n within e = later_one (next_name p x.0) (some_name p xs i d n (omega (arith, within)) e) where
  later_one : (o : Option Bytes) → names_in p xs ≢ [] → cons_option o (names_in p xs) ≢ []
  later_one None some = some
  later_one (Some m) some = λ none. cc

-- ---- the entries that matter

no_names : (p : PathNames) (t : Tree) → AllByRecursion (λ e. is_below p e.0 ≡ false) t → names_in p t ≡ []
no_names p [] h = refl
no_names p (e ∷ es) h = rw (next_name-none p e.0 h.0) (no_names p es h.1)

one_more : (n : ℕ) → 1 + n ≡ suc n
one_more n = omega arith

run : (p : PathNames) (t : Tree) → Rises t → AllAfter p t → names_in p t ≡ names_in p (take (count_below t p) t)
run p [] r after = refl
run p (e ∷ es) r after = go (true_or_false (is_below p e.0)) (run p es r.1.1 after.1) where
  go : (is_below p e.0 ≡ true) ⊎ (is_below p e.0 ≡ false) → names_in p es ≡ names_in p (take (count_below es p) es) → names_in p (e ∷ es) ≡ names_in p (take (count_below (e ∷ es) p) (e ∷ es))
  go (inl is) rest = rw (is, one_more (count_below es p)) (ap (cons_option (next_name p e.0)) rest)
  go (inr isnt) rest = rw (isnt, next_name-none p e.0 isnt) (no_names p es (none_below p e es after.0 isnt r.1.0))

abbrev cut : PathNames → Tree → Tree
cut p t = take (count_below t p) t

names-place : (p : PathNames) (t : Tree) → Rises t → names_in p t ≡ names_in p (cut p (behind t p))
names-place p [] r = refl
names-place p (e ∷ es) r = go (true_or_false (is_before p e)) (names-place p es r.1.1) where
  there : is_before p e ≡ false → (same_path p e.0 ≡ true) ⊎ (same_path p e.0 ≡ false) → names_in p (e ∷ es) ≡ names_in p (cut p (cond (same_path p e.0) es (e ∷ es)))
  there isnt (inl same) = rw (same, next_name-none p e.0 (not_below_itself p e.0 same)) (run p es r.1.1 (later p e es (at_or_after p e.0 isnt) r.1.0))
  there isnt (inr other) = rw other (run p (e ∷ es) r (all_after p e es isnt other r.1.0))

  go : (is_before p e ≡ true) ⊎ (is_before p e ≡ false) → names_in p es ≡ names_in p (cut p (behind es p)) → names_in p (e ∷ es) ≡ names_in p (cut p (behind (e ∷ es) p))
  go (inl is) rest = rw (behind-before p e es is, next_name-none p e.0 (before_not_below p e.0 is)) rest
  go (inr isnt) rest = rw (behind-place p e es isnt) (there isnt (true_or_false (same_path p e.0)))

pub names_below-place : (t : Tree) (p : PathNames) → IsTree t → names_below t p ≡ dedup same_name (names_in p (cut p (behind t p)))
names_below-place t p h = ap (dedup same_name) (names-place p t (rises_tree t h))

-- the same, as the code cuts the entries out
pub names_below-cut : (t : Tree) (p : PathNames) (place count : ℕ) (rest : Tree) → IsTree t → place ≡ place_in t p → rest ≡ beyond (take (length t - place) (drop place t)) p → count ≡ count_below rest p
    → dedup same_name (names_in p (take count rest)) ≡ names_below t p
names_below-cut t p place count rest h is r n = rw (n, r, rest_is place t, is) (sym (names_below-place t p h))

-- ---- the names of a folder in which something stands

some_from : (k : Bytes) (ns : List Bytes) → dedup_from same_name k ns ≢ []
some_from k [] = λ none. cc
some_from k (n ∷ ns) = go (same_name n k) (some_from k ns) where
  go : (b : Bool) → dedup_from same_name k ns ≢ [] → cond b (dedup_from same_name k ns) (k ∷ dedup_from same_name n ns) ≢ []
  go true rest = rest
  go false rest = λ none. cc

once_some : (ns : List Bytes) → ns ≢ [] → dedup same_name ns ≢ []
once_some [] some = some
once_some (n ∷ ns) some = some_from n ns

pub names_below-some : (t : Tree) (p : PathNames) (place count : ℕ) (rest : Tree) → IsTree t → place ≡ place_in t p → rest ≡ beyond (take (length t - place) (drop place t)) p → count ≡ count_below rest p
    → names_in p (take count rest) ≢ [] → names_below t p ≢ []
names_below-some t p place count rest h is r n some = λ none. once_some (names_in p (take count rest)) some (names_below-cut t p place count rest h is r n ∙ none)
