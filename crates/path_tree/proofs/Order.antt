-- The order of paths, and which lie below which.
use Rattle.std.proofs.Common.{◌≡◌, ◌≢◌, ap, ◌⊎◌, ℕ, suc, zero, ◌+◌, ◌<◌, ◌≤◌, min, Bool, true, false, ◌&&◌, [], ◌∷◌, length, drop, get_or, Some, None, cond, refl, sym, ◌∙◌, subst, inl, inr, drop-cons, add-one, arith}
use Rattle.std.specs.declared.cmp.Ordering.{Ordering}
use Rattle.std.specs.declared.cmp.Ordering.TheVariants.{Less, Equal, Greater}
use Rattle.std.specs.Ordering.{nat_cmp, is_eq, ordering_then, ordering_reverse}
use Rattle.std.specs.Cmp.{IsTotalOrder}
use Rattle.std.specs.Cmp.Lexicographic.{same_text}
use Rattle.std.specs.FinMap.{slice_cmp-IsAntisymmetric}
use Rattle.std.proofs.lemmas.Cmp.{lists_total, lists_equiv, nat_list_cmp_total, nat_list_eq_equiv}
use Rattle.std.proofs.Math.Bool.{and-false}
use Rattle.std.proofs.lemmas.List.{drop_all}
use Rattle.std.proofs.lemmas.Bool.{false_from_ne_true}
use Rattle.std.proofs.lemmas.Bool.Decides.{nat_tests}
use Rattle.path_tree.specs.Paths.{Bytes, PathNames, name_cmp, path_cmp, same_name, same_path, is_below, next_name, shared}

pub path_total : IsTotalOrder path_cmp
path_total = lists_total nat_list_cmp_total

pub name_total : IsTotalOrder name_cmp
name_total = nat_list_cmp_total

pub same_name-is : (m n : Bytes) → same_name m n ≡ true → m ≡ n
same_name-is m n e = same_text m n (sym e)

pub same_name-refl : (n : Bytes) → same_name n n ≡ true
same_name-refl [] = refl
same_name-refl (b ∷ bs) = grind (arith, nat_tests, same_name-refl bs)

pub same_name-flips : (m n : Bytes) → same_name m n ≡ same_name n m
same_name-flips = nat_list_eq_equiv.symm

and_first : (a b : Bool) → (a && b) ≡ true → a ≡ true
and_first true b e = refl
and_first false b e = e

and_second : (a b : Bool) → (a && b) ≡ true → b ≡ true
and_second true b e = e
and_second false b e = cc

pub same_path-is : (p q : PathNames) → same_path p q ≡ true → p ≡ q
same_path-is [] [] e = refl
same_path-is [] (n ∷ ns) e = cc
same_path-is (m ∷ ms) [] e = cc
same_path-is (m ∷ ms) (n ∷ ns) e =
    let first = same_name-is m n (and_first (same_name m n) (same_path ms ns) e) in
    let rest = same_path-is ms ns (and_second (same_name m n) (same_path ms ns) e) in
    cc

pub same_path-refl : (p : PathNames) → same_path p p ≡ true
same_path-refl [] = refl
same_path-refl (n ∷ ns) = rw (same_name-refl n) (same_path-refl ns)

pub same_path-flips : (p q : PathNames) → same_path p q ≡ same_path q p
same_path-flips = let paths = lists_equiv nat_list_eq_equiv in paths.symm

pub name_cmp-refl : (n : Bytes) → name_cmp n n ≡ Equal
name_cmp-refl [] = refl
name_cmp-refl (b ∷ bs) = let e : nat_cmp b b ≡ Equal = grind (arith, nat_tests) in rw e (name_cmp-refl bs)

pub path_cmp-refl : (p : PathNames) → path_cmp p p ≡ Equal
path_cmp-refl [] = refl
path_cmp-refl (n ∷ ns) = rw (name_cmp-refl n) (path_cmp-refl ns)

nat_cmp-is : (a b : ℕ) → nat_cmp a b ≡ Equal → a ≡ b
nat_cmp-is a b e = grind (arith, nat_tests)

pub name_cmp-is : (m n : Bytes) → name_cmp m n ≡ Equal → m ≡ n
name_cmp-is m n e = slice_cmp-IsAntisymmetric nat_cmp-is m n e

pub path_cmp-is : (p q : PathNames) → path_cmp p q ≡ Equal → p ≡ q
path_cmp-is p q e = slice_cmp-IsAntisymmetric name_cmp-is p q e

-- two answers that decide each other
pub true_or_false : (b : Bool) → (b ≡ true) ⊎ (b ≡ false)
true_or_false true = inl refl
true_or_false false = inr refl

pub same_path-cmp : (p q : PathNames) → same_path p q ≡ is_eq (path_cmp p q)
same_path-cmp p q = go (same_path p q) (path_cmp p q) refl refl where
  go : (b : Bool) (o : Ordering) → same_path p q ≡ b → path_cmp p q ≡ o → b ≡ is_eq o
  go true Equal e f = refl
  go false Less e f = refl
  go false Greater e f = refl
  go true Less e f = let same = same_path-is p q e in let back : path_cmp p q ≡ Equal = subst (λ (r : PathNames). path_cmp p r ≡ Equal) same (path_cmp-refl p) in cc
  go true Greater e f = let same = same_path-is p q e in let back : path_cmp p q ≡ Equal = subst (λ (r : PathNames). path_cmp p r ≡ Equal) same (path_cmp-refl p) in cc
  go false Equal e f = let same = path_cmp-is p q f in let back : same_path p q ≡ true = subst (λ (r : PathNames). same_path p r ≡ true) same (same_path-refl p) in cc

then_less : (o r : Ordering) → ordering_then o r ≡ Less → (o ≡ Less) ⊎ ((o ≡ Equal) × (r ≡ Less))
then_less Less r e = inl refl
then_less Equal r e = inr (refl, e)
then_less Greater r e = cc

pub not_both_less : (p q : PathNames) → path_cmp p q ≡ Less → path_cmp q p ≡ Less → ⊥
not_both_less p q e f = let back = path_total.antisymm p q in cc

names_not_both_less : (m n : Bytes) → name_cmp m n ≡ Less → name_cmp n m ≡ Less → ⊥
names_not_both_less m n e f = let back = name_total.antisymm m n in cc

names_apart : {m n : Bytes} → name_cmp m n ≡ Less → m ≢ n
names_apart {m} {n} e same = let self : name_cmp m n ≡ Equal = subst (λ (k : Bytes). name_cmp m k ≡ Equal) same (name_cmp-refl m) in cc

-- names and paths that differ, by the tests
pub names_differ : (m n : Bytes) → name_cmp m n ≡ Less → same_name m n ≡ false
names_differ m n less = false_from_ne_true (same_name m n) (λ e. names_apart less (same_name-is m n e))

pub paths_differ : (p q : PathNames) → p ≢ q → same_path p q ≡ false
paths_differ p q ne = false_from_ne_true (same_path p q) (λ e. ne (same_path-is p q e))

pub less_differ : (p q : PathNames) → path_cmp p q ≡ Less → p ≢ q
less_differ p q less same = let self : path_cmp p q ≡ Equal = subst (λ (r : PathNames). path_cmp p r ≡ Equal) same (path_cmp-refl p) in cc

-- a path that stands before another or after it isn't the same
pub less_not_same : (p q : PathNames) → path_cmp p q ≡ Less → same_path p q ≡ false
less_not_same p q e = same_path-cmp p q ∙ ap is_eq e

pub more_not_same : (p q : PathNames) → path_cmp q p ≡ Less → same_path p q ≡ false
more_not_same p q e = same_path-cmp p q ∙ ap is_eq (path_total.antisymm p q ∙ ap ordering_reverse e)

-- what lies below a path stands after it
pub below-less : (p q : PathNames) → is_below p q ≡ true → path_cmp p q ≡ Less
below-less [] [] e = cc
below-less [] (n ∷ ns) e = refl
below-less (m ∷ ms) [] e = cc
below-less (m ∷ ms) (n ∷ ns) e =
    let first = same_name-is m n (and_first (same_name m n) (is_below ms ns) e) in
    let same : name_cmp m n ≡ Equal = subst (λ (k : Bytes). name_cmp m k ≡ Equal) first (name_cmp-refl m) in
    rw same (below-less ms ns (and_second (same_name m n) (is_below ms ns) e))

-- and so does all that stands between the two
pub below_between : (p q r : PathNames) → is_below p r ≡ true → path_cmp p q ≡ Less → path_cmp q r ≡ Less → is_below p q ≡ true
below_between [] [] r b e f = cc
below_between [] (n ∷ ns) r b e f = refl
below_between (m ∷ ms) [] r b e f = cc
below_between (m ∷ ms) (n ∷ ns) [] b e f = cc
below_between (m ∷ ms) (n ∷ ns) (k ∷ ks) b e f =
    let first = same_name-is m k (and_first (same_name m k) (is_below ms ks) b) in
    go first (and_second (same_name m k) (is_below ms ks) b) (then_less (name_cmp m n) (path_cmp ms ns) e) (then_less (name_cmp n k) (path_cmp ns ks) f) (below_between ms ns ks)
  where
    go : m ≡ k → is_below ms ks ≡ true → (name_cmp m n ≡ Less) ⊎ ((name_cmp m n ≡ Equal) × (path_cmp ms ns ≡ Less)) → (name_cmp n k ≡ Less) ⊎ ((name_cmp n k ≡ Equal) × (path_cmp ns ks ≡ Less)) → (is_below ms ks ≡ true → path_cmp ms ns ≡ Less → path_cmp ns ks ≡ Less → is_below ms ns ≡ true) → (same_name m n && is_below ms ns) ≡ true
    go same below (inl less) (inl more) rest = absurd (names_not_both_less m n less (subst (λ (x : Bytes). name_cmp n x ≡ Less) (sym same) more))
    go same below (inl less) (inr more) rest = let is = name_cmp-is n k more.0 in let self = name_cmp-refl m in absurd (names_apart less (same ∙ sym is))
    go same below (inr less) (inl more) rest = absurd (names_apart (subst (λ (x : Bytes). name_cmp n x ≡ Less) (sym same) more) (sym (name_cmp-is m n less.0)))
    go same below (inr less) (inr more) rest = let is = name_cmp-is m n less.0 in rw (sym is, same_name-refl m) (rest below less.1 more.1)

-- both paths without their first i names, while both have more
pub is_below-step : (p q : PathNames) (i : ℕ) → i < length p → i < length q → is_below (drop i p) (drop i q) ≡ (same_name (get_or p i []) (get_or q i []) && is_below (drop (i + 1) p) (drop (i + 1) q))
is_below-step p q i in_p in_q = rw (drop-cons p i [] in_p, drop-cons q i [] in_q, add-one) refl

pub is_below-long : (p q : PathNames) → length q ≤ length p → is_below p q ≡ false
is_below-long [] [] l = refl
is_below-long [] (n ∷ ns) l = absurd (omega arith)
is_below-long (m ∷ ms) [] l = refl
is_below-long (m ∷ ms) (n ∷ ns) l = rw (is_below-long ms ns (omega arith)) (and-false (same_name m n))

pub is_below-end : (p q : PathNames) (i : ℕ) → length p ≤ i → i < length q → is_below (drop i p) (drop i q) ≡ true
is_below-end p q i out_p in_q = rw (drop_all i p out_p, drop-cons q i [] in_q) refl

pub cmp-ends : (p q : PathNames) (i : ℕ) → i ≡ min (length p) (length q) → path_cmp (drop i p) (drop i q) ≡ nat_cmp (length p) (length q)
cmp-ends [] [] i e = rw (drop_all {X = Bytes} i [] (omega arith)) refl
cmp-ends [] (n ∷ ns) i e = let z : i ≡ 0 = omega arith in rw z (grind (arith, nat_tests))
cmp-ends (m ∷ ms) [] i e = let z : i ≡ 0 = omega arith in rw z (grind (arith, nat_tests))
cmp-ends (m ∷ ms) (n ∷ ns) zero e = absurd (omega arith)
cmp-ends (m ∷ ms) (n ∷ ns) (suc i) e = cmp-ends ms ns i (omega arith) ∙ grind (arith, nat_tests)

-- with how many names two paths begin alike, after i names of both
pub shared_step : (p q : PathNames) (i : ℕ) → i < length p → i < length q → shared (drop i p) (drop i q) ≡ cond (same_name (get_or p i []) (get_or q i [])) (suc (shared (drop (i + 1) p) (drop (i + 1) q))) 0
shared_step p q i in_p in_q = rw (drop-cons p i [] in_p, drop-cons q i [] in_q, add-one) refl

pub shared_over : (p q : PathNames) (i : ℕ) → min (length p) (length q) ≤ i → shared (drop i p) (drop i q) ≡ 0
shared_over [] q i over = rw (drop_all {X = Bytes} i [] (omega arith)) refl
shared_over (m ∷ ms) [] i over = rw (drop_all {X = Bytes} i [] (omega arith)) (none (drop i (m ∷ ms))) where
  none : (r : PathNames) → shared r [] ≡ 0
  none [] = refl
  none (k ∷ ks) = refl
shared_over (m ∷ ms) (n ∷ ns) zero over = absurd (omega arith)
shared_over (m ∷ ms) (n ∷ ns) (suc i) over = shared_over ms ns i (omega arith)

-- the next name of a path that lies below another
pub next_name-below : (p q : PathNames) (d : Bytes) → is_below p q ≡ true → next_name p q ≡ Some (get_or q (length p) d)
next_name-below [] [] d b = cc
next_name-below [] (n ∷ ns) d b = refl
next_name-below (m ∷ ms) [] d b = cc
next_name-below (m ∷ ms) (n ∷ ns) d b = rw (and_first (same_name m n) (is_below ms ns) b) (next_name-below ms ns d (and_second (same_name m n) (is_below ms ns) b))

pub next_name-none : (p q : PathNames) → is_below p q ≡ false → next_name p q ≡ None
next_name-none [] [] b = refl
next_name-none [] (n ∷ ns) b = cc
next_name-none (m ∷ ms) [] b = refl
next_name-none (m ∷ ms) (n ∷ ns) b = go (same_name m n) b (next_name-none ms ns) where
  go : (t : Bool) → (t && is_below ms ns) ≡ false → (is_below ms ns ≡ false → next_name ms ns ≡ None) → cond t (next_name ms ns) None ≡ None
  go true b rest = rest b
  go false b rest = refl

pub below-length : (p q : PathNames) → is_below p q ≡ true → length p < length q
below-length [] [] b = cc
below-length [] (n ∷ ns) b = omega arith
below-length (m ∷ ms) [] b = cc
below-length (m ∷ ms) (n ∷ ns) b = let rest = below-length ms ns (and_second (same_name m n) (is_below ms ns) b) in omega arith
