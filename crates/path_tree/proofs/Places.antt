-- What the entries beside a path's place tell of all entries.
use Rattle.std.proofs.Common.{◌≡◌, ◌⊎◌, ℕ, suc, zero, ◌+◌, ◌-◌, ◌<◌, ◌≤◌, Bool, true, false, ◌||◌, ◌&&◌, cond, List, [], ◌∷◌, length, drop, take, get_or, set, Some, None, is_some, refl, ap, sym, ◌∙◌, subst, inl, inr, length-drop, drop-cons, add-one, arith}
use Rattle.std.specs.declared.cmp.Ordering.{Ordering}
use Rattle.std.specs.declared.cmp.Ordering.TheVariants.{Less, Equal, Greater}
use Rattle.std.specs.Ordering.{is_lt, ordering_reverse}
use Rattle.std.specs.List.{AllByRecursion, AllWithin, list_any, prefix_len, insert, remove}
use Rattle.std.proofs.Math.Bool.{or-false}
use Rattle.std.specs.BTreeMap.{insert_entry}
use Rattle.std.specs.Map.{remove_entry}
use Rattle.std.specs.List.Sorted.{IsPartitionedBy}
use Rattle.std.proofs.lemmas.List.{take_all, drop_all}
use Rattle.path_tree.specs.Paths.{Bytes, PathNames, path_cmp, same_path, is_below, same_name}
use Rattle.path_tree.specs.Trees.{Tree, IsTree, is_a_file, entry_at, leads_on, is_through_file}
use Rattle.path_tree.specs.Inner.Places.{is_before, place_in, first_at, behind, first_is_below, last_is_above, count_below, last_name_is}
use Rattle.path_tree.specs.declared.entry.Entry.{Entry}
use Rattle.path_tree.specs.declared.entry.Entry.TheVariants as entries
use Rattle.path_tree.proofs.Order.{path_total, true_or_false, same_path-is, same_path-refl, less_not_same, more_not_same, path_cmp-is, path_cmp-refl, below-less, below_between, not_both_less}
use Rattle.path_tree.proofs.Rising.{Item, Apart, Rises, each_weaker}

lt_or_same : (i j : ℕ) → i ≤ j → (i < j) ⊎ (i ≡ j)
lt_or_same zero zero l = inr refl
lt_or_same zero (suc j) l = inl (omega arith)
lt_or_same (suc i) zero l = absurd (omega arith)
lt_or_same (suc i) (suc j) l = go (lt_or_same i j (omega arith)) where
  go : (i < j) ⊎ (i ≡ j) → (suc i < suc j) ⊎ (suc i ≡ suc j)
  go (inl less) = inl (omega arith)
  go (inr same) = inr (ap suc same)

-- ---- the place

one_more : (n : ℕ) → 1 + n ≡ suc n
one_more n = omega arith

pub place-before : (p : PathNames) (e : Item) (es : Tree) → is_before p e ≡ true → place_in (e ∷ es) p ≡ suc (place_in es p)
place-before p e es b = rw b (one_more (place_in es p))

pub place-behind : (p : PathNames) (e : Item) (es : Tree) → is_before p e ≡ false → place_in (e ∷ es) p ≡ 0
place-behind p e es b = rw b refl

lt_is : (o : Ordering) → is_lt o ≡ true → o ≡ Less
lt_is Less e = refl
lt_is Equal e = cc
lt_is Greater e = cc

-- an entry that doesn't stand before a path stands at it or after it
pub at_or_after : (p q : PathNames) → is_lt (path_cmp q p) ≡ false → (q ≡ p) ⊎ (path_cmp p q ≡ Less)
at_or_after p q e = go (path_cmp q p) refl e where
  go : (o : Ordering) → path_cmp q p ≡ o → is_lt o ≡ false → (q ≡ p) ⊎ (path_cmp p q ≡ Less)
  go Less f e = cc
  go Equal f e = inl (path_cmp-is q p f)
  go Greater f e = inr (path_total.antisymm p q ∙ ap ordering_reverse f)

-- all entries stand after a path
abbrev pub AllAfter : PathNames → Tree → Type 0
AllAfter p t = AllByRecursion (λ (e : Item). path_cmp p e.0 ≡ Less) t

-- and so do all later ones
pub later : (p : PathNames) (e : Item) (es : Tree) → (e.0 ≡ p) ⊎ (path_cmp p e.0 ≡ Less) → AllByRecursion (Apart e) es → AllAfter p es
later p e es (inl same) h = each_weaker es (λ f a. subst (λ (q : PathNames). path_cmp q f.0 ≡ Less) same a.0) h
later p e es (inr less) h = each_weaker es (λ f a. path_total.trans p e.0 f.0 less a.0) h

-- ---- the entry at a path

none_there : (p : PathNames) (es : Tree) → AllAfter p es → entry_at es p ≡ None
none_there p [] h = refl
none_there p (f ∷ fs) h = rw (less_not_same p f.0 h.0) (none_there p fs h.1)

before_not_same : (p q : PathNames) → is_lt (path_cmp q p) ≡ true → same_path p q ≡ false
before_not_same p q e = more_not_same p q (lt_is (path_cmp q p) e)

pub entry_at-place : (t : Tree) (p : PathNames) → Rises t → entry_at t p ≡ first_at (drop (place_in t p) t) p
entry_at-place [] p r = refl
entry_at-place (e ∷ es) p r = go (true_or_false (is_before p e)) (entry_at-place es p r.1.1) where
  go : (is_before p e ≡ true) ⊎ (is_before p e ≡ false) → entry_at es p ≡ first_at (drop (place_in es p) es) p → entry_at (e ∷ es) p ≡ first_at (drop (place_in (e ∷ es) p) (e ∷ es)) p
  go (inl b) rest = rw (place-before p e es b, before_not_same p e.0 b) rest
  go (inr b) rest = rw (place-behind p e es b, none_there p es (later p e es (at_or_after p e.0 b) r.1.0)) refl

-- ---- the entries below a path

pub before_not_below : (p q : PathNames) → is_lt (path_cmp q p) ≡ true → is_below p q ≡ false
before_not_below p q e = go (true_or_false (is_below p q)) where
  go : (is_below p q ≡ true) ⊎ (is_below p q ≡ false) → is_below p q ≡ false
  go (inl b) = absurd (not_both_less p q (below-less p q b) (lt_is (path_cmp q p) e))
  go (inr b) = b

pub not_below_itself : (p q : PathNames) → same_path p q ≡ true → is_below p q ≡ false
not_below_itself p q same = go (true_or_false (is_below p q)) where
  go : (is_below p q ≡ true) ⊎ (is_below p q ≡ false) → is_below p q ≡ false
  go (inl b) = let less = below-less p q b in let not = less_not_same p q less in cc
  go (inr b) = b

-- once an entry after a path isn't below it, no later one is
pub none_below : (p : PathNames) (e : Item) (es : Tree) → path_cmp p e.0 ≡ Less → is_below p e.0 ≡ false → AllByRecursion (Apart e) es → AllByRecursion (λ (f : Item). is_below p f.0 ≡ false) es
none_below p e es less out h = each_weaker es (λ f a. go f a (true_or_false (is_below p f.0))) h where
  go : (f : Item) → Apart e f → (is_below p f.0 ≡ true) ⊎ (is_below p f.0 ≡ false) → is_below p f.0 ≡ false
  go f a (inl b) = let between = below_between p e.0 f.0 b less a.0 in cc
  go f a (inr b) = b

any_none : (test : Item → Bool) (es : Tree) → AllByRecursion (λ f. test f ≡ false) es → list_any test es ≡ false
any_none test [] h = refl
any_none test (f ∷ fs) h = rw h.0 (any_none test fs h.1)

leads-first : (t : Tree) (p : PathNames) → AllAfter p t → Rises t → leads_on t p ≡ first_is_below t p
leads-first [] p after r = refl
leads-first (e ∷ es) p after r = go (true_or_false (is_below p e.0)) where
  go : (is_below p e.0 ≡ true) ⊎ (is_below p e.0 ≡ false) → (is_below p e.0 || leads_on es p) ≡ is_below p e.0
  go (inl b) = rw b refl
  go (inr b) = rw (b, any_none (λ f. is_below p f.0) es (none_below p e es after.0 b r.1.0)) refl

-- what stands behind a path stands after it, and is all of the tree that does
pub behind-place : (p : PathNames) (e : Item) (es : Tree) → is_before p e ≡ false → behind (e ∷ es) p ≡ cond (same_path p e.0) es (e ∷ es)
behind-place p e es b = rw (place-behind p e es b) refl

pub behind-before : (p : PathNames) (e : Item) (es : Tree) → is_before p e ≡ true → behind (e ∷ es) p ≡ behind es p
behind-before p e es b = rw (place-before p e es b) refl

after_it : (p : PathNames) (e : Item) → (e.0 ≡ p) ⊎ (path_cmp p e.0 ≡ Less) → same_path p e.0 ≡ false → path_cmp p e.0 ≡ Less
after_it p e (inl same) other = let self : same_path p e.0 ≡ true = subst (λ (q : PathNames). same_path p q ≡ true) (sym same) (same_path-refl p) in cc
after_it p e (inr less) other = less

pub all_after : (p : PathNames) (e : Item) (es : Tree) → is_before p e ≡ false → same_path p e.0 ≡ false → AllByRecursion (Apart e) es → AllAfter p (e ∷ es)
all_after p e es b other h = let less = after_it p e (at_or_after p e.0 b) other in (less, later p e es (inr less) h)

pub leads-place : (t : Tree) (p : PathNames) → Rises t → leads_on t p ≡ first_is_below (behind t p) p
leads-place [] p r = refl
leads-place (e ∷ es) p r = go (true_or_false (is_before p e)) (leads-place es p r.1.1) where
  there : is_before p e ≡ false → (same_path p e.0 ≡ true) ⊎ (same_path p e.0 ≡ false) → leads_on (e ∷ es) p ≡ first_is_below (cond (same_path p e.0) es (e ∷ es)) p
  there b (inl same) = rw (same, not_below_itself p e.0 same) (leads-first es p (later p e es (at_or_after p e.0 b) r.1.0) r.1.1)
  there b (inr other) = rw other (leads-first (e ∷ es) p (all_after p e es b other r.1.0) r)

  go : (is_before p e ≡ true) ⊎ (is_before p e ≡ false) → leads_on es p ≡ first_is_below (behind es p) p → leads_on (e ∷ es) p ≡ first_is_below (behind (e ∷ es) p) p
  go (inl b) rest = rw (behind-before p e es b, before_not_below p e.0 b) rest
  go (inr b) rest = rw (behind-place p e es b) (there b (true_or_false (same_path p e.0)))

-- ---- the file above a path

abbrev is_over : PathNames → Item → Bool
is_over p e = is_a_file e.1 && is_below e.0 p

not_above : (p q : PathNames) → (q ≡ p) ⊎ (path_cmp p q ≡ Less) → is_below q p ≡ false
not_above p q side = go side (true_or_false (is_below q p)) where
  go : (q ≡ p) ⊎ (path_cmp p q ≡ Less) → (is_below q p ≡ true) ⊎ (is_below q p ≡ false) → is_below q p ≡ false
  go (inl same) (inl b) = let less = below-less q p b in let self : path_cmp q p ≡ Equal = subst (λ (x : PathNames). path_cmp q x ≡ Equal) same (path_cmp-refl q) in cc
  go (inr less) (inl b) = absurd (not_both_less p q less (below-less q p b))
  go side (inr b) = b

and_no : (a b : Bool) → b ≡ false → (a && b) ≡ false
and_no true b e = e
and_no false b e = refl

not_over : (p : PathNames) (e : Item) → (e.0 ≡ p) ⊎ (path_cmp p e.0 ≡ Less) → is_over p e ≡ false
not_over p e side = and_no (is_a_file e.1) (is_below e.0 p) (not_above p e.0 side)

-- a file above a path has nothing between it and the path
not_between : (p : PathNames) (e g : Item) → Apart e g → path_cmp g.0 p ≡ Less → is_over p e ≡ false
not_between p (q, entries.Folder) g apart less = refl
not_between p (q, entries.File b) g apart less = go (true_or_false (is_below q p)) where
  go : (is_below q p ≡ true) ⊎ (is_below q p ≡ false) → is_below q p ≡ false
  go (inl is) = let between = below_between q g.0 p is apart.0 less in let not = apart.1 in cc
  go (inr isnt) = isnt

above_from : (p : PathNames) (e : Item) (es : Tree) (front : Tree) → front ≡ take (place_in es p) es → AllByRecursion (Apart e) es → is_through_file es p ≡ last_is_above front p → is_through_file (e ∷ es) p ≡ last_is_above (e ∷ front) p
above_from p e es [] same apart rest = rw rest (or-false (is_over p e))
above_from p e [] (f ∷ fs) same apart rest = absurd (omega (arith, ap length same))
above_from p e (g ∷ gs) (f ∷ fs) same apart rest = rw (not_between p e g apart.0 (before (true_or_false (is_before p g)))) rest where
  before : (is_before p g ≡ true) ⊎ (is_before p g ≡ false) → path_cmp g.0 p ≡ Less
  before (inl is) = lt_is (path_cmp g.0 p) is
  before (inr isnt) = let none : f ∷ fs ≡ [] = same ∙ ap (λ n. take n (g ∷ gs)) (place-behind p g gs isnt) in cc

pub above-place : (t : Tree) (p : PathNames) → Rises t → is_through_file t p ≡ last_is_above (take (place_in t p) t) p
above-place [] p r = refl
above-place (e ∷ es) p r = go (true_or_false (is_before p e)) (above-place es p r.1.1) where
  go : (is_before p e ≡ true) ⊎ (is_before p e ≡ false) → is_through_file es p ≡ last_is_above (take (place_in es p) es) p → is_through_file (e ∷ es) p ≡ last_is_above (take (place_in (e ∷ es) p) (e ∷ es)) p
  go (inl b) rest = rw (place-before p e es b) (above_from p e es (take (place_in es p) es) refl r.1.0 rest)
  go (inr b) rest = rw (place-behind p e es b) (any_none (is_over p) (e ∷ es) (not_over p e (at_or_after p e.0 b), each_weaker es (λ f less. not_over p f (inr less)) (later p e es (at_or_after p e.0 b) r.1.0)))

-- ---- the tree after an edit

abbrev pub first_is : Tree → PathNames → Bool
first_is t p = is_some (first_at t p)

some_if : (b : Bool) (x : Entry) → is_some (cond b (Some x) None) ≡ b
some_if true x = refl
some_if false x = refl

pub first_is-same : (e : Item) (es : Tree) (p : PathNames) → first_is (e ∷ es) p ≡ same_path p e.0
first_is-same e es p = some_if (same_path p e.0) e.1

-- a new entry at its place
pub insert-place : (t : Tree) (p : PathNames) (x : Entry) → first_is (drop (place_in t p) t) p ≡ false → insert t (place_in t p) (p, x) ≡ insert_entry path_cmp t p x
insert-place [] p x new = refl
insert-place (e ∷ es) p x new = go (true_or_false (is_before p e)) (insert-place es p x) where
  go : (is_before p e ≡ true) ⊎ (is_before p e ≡ false) → (first_is (drop (place_in es p) es) p ≡ false → insert es (place_in es p) (p, x) ≡ insert_entry path_cmp es p x) → insert (e ∷ es) (place_in (e ∷ es) p) (p, x) ≡ insert_entry path_cmp (e ∷ es) p x
  go (inl is) rest =
      let out : path_cmp p e.0 ≡ Greater = path_total.antisymm p e.0 ∙ ap ordering_reverse (lt_is (path_cmp e.0 p) is) in
      let new' : first_is (drop (place_in es p) es) p ≡ false = subst (λ (n : ℕ). first_is (drop n (e ∷ es)) p ≡ false) (place-before p e es is) new in
      rw (place-before p e es is, out) (ap (λ l. e ∷ l) (rest new'))
  go (inr isnt) rest =
      let new' : same_path p e.0 ≡ false = sym (first_is-same e es p) ∙ subst (λ (n : ℕ). first_is (drop n (e ∷ es)) p ≡ false) (place-behind p e es isnt) new in
      rw (place-behind p e es isnt, after_it p e (at_or_after p e.0 isnt) new') refl

-- an entry that stands in the place of the old one
pub replace-place : (t : Tree) (p : PathNames) (x : Entry) → first_is (drop (place_in t p) t) p ≡ true → set t (place_in t p) (p, x) ≡ insert_entry path_cmp t p x
replace-place [] p x there = cc
replace-place (e ∷ es) p x there = go (true_or_false (is_before p e)) (replace-place es p x) where
  go : (is_before p e ≡ true) ⊎ (is_before p e ≡ false) → (first_is (drop (place_in es p) es) p ≡ true → set es (place_in es p) (p, x) ≡ insert_entry path_cmp es p x) → set (e ∷ es) (place_in (e ∷ es) p) (p, x) ≡ insert_entry path_cmp (e ∷ es) p x
  go (inl is) rest =
      let out : path_cmp p e.0 ≡ Greater = path_total.antisymm p e.0 ∙ ap ordering_reverse (lt_is (path_cmp e.0 p) is) in
      let there' : first_is (drop (place_in es p) es) p ≡ true = subst (λ (n : ℕ). first_is (drop n (e ∷ es)) p ≡ true) (place-before p e es is) there in
      rw (place-before p e es is, out) (ap (λ l. e ∷ l) (rest there'))
  go (inr isnt) rest =
      let there' : same_path p e.0 ≡ true = sym (first_is-same e es p) ∙ subst (λ (n : ℕ). first_is (drop n (e ∷ es)) p ≡ true) (place-behind p e es isnt) there in
      let same = same_path-is p e.0 there' in
      let equal : path_cmp p e.0 ≡ Equal = subst (λ (q : PathNames). path_cmp p q ≡ Equal) same (path_cmp-refl p) in
      rw (place-behind p e es isnt, equal) (ap (λ q. (q, x) ∷ es) same)

-- an entry taken out
pub remove-place : (t : Tree) (p : PathNames) → first_is (drop (place_in t p) t) p ≡ true → remove t (place_in t p) ≡ remove_entry (same_path p) t
remove-place [] p there = cc
remove-place (e ∷ es) p there = go (true_or_false (is_before p e)) (remove-place es p) where
  go : (is_before p e ≡ true) ⊎ (is_before p e ≡ false) → (first_is (drop (place_in es p) es) p ≡ true → remove es (place_in es p) ≡ remove_entry (same_path p) es) → remove (e ∷ es) (place_in (e ∷ es) p) ≡ remove_entry (same_path p) (e ∷ es)
  go (inl is) rest =
      let there' : first_is (drop (place_in es p) es) p ≡ true = subst (λ (n : ℕ). first_is (drop n (e ∷ es)) p ≡ true) (place-before p e es is) there in
      rw (place-before p e es is, before_not_same p e.0 is) (ap (λ l. e ∷ l) (rest there'))
  go (inr isnt) rest =
      let there' : same_path p e.0 ≡ true = sym (first_is-same e es p) ∙ subst (λ (n : ℕ). first_is (drop n (e ∷ es)) p ≡ true) (place-behind p e es isnt) there in
      rw (place-behind p e es isnt, there') refl

-- ---- the code's searches

-- the rest of a list, as a slice of it is seen
pub rest_is : {X : Type 0} (n : ℕ) (xs : List X) → take (length xs - n) (drop n xs) ≡ drop n xs
rest_is n xs = take_all (length xs - n) (drop n xs) (omega (arith, length-drop n xs))

pub parted : (t : Tree) (p : PathNames) → IsTree t → IsPartitionedBy (is_before p) t
parted t p h i j d up within is = go (lt_or_same i j up) where
  go : (i < j) ⊎ (i ≡ j) → is_before p (get_or t i d) ≡ true
  go (inl less) =
      let first = h.in_order i j d less within in
      ap is_lt (path_total.trans (get_or t i d).0 (get_or t j d).0 p first (lt_is _ is))
  go (inr same) = subst (λ (k : ℕ). is_before p (get_or t k d) ≡ true) (sym same) is

pub prefix_len-point : {X : Type 0} (q : X → Bool) (xs : List X) (i : ℕ) → i ≤ length xs → AllWithin (λ y. q y ≡ true) xs 0 i → AllWithin (λ y. q y ≡ false) xs i (length xs) → prefix_len q xs ≡ i
prefix_len-point q [] i l front back = omega arith
prefix_len-point q (x ∷ xs) zero l front back = rw (back 0 x (omega arith) (omega arith)) refl
prefix_len-point q (x ∷ xs) (suc i) l front back =
    rw (front 0 x (omega arith) (omega arith))
    (one_more (prefix_len q xs) ∙ ap suc (prefix_len-point q xs i (omega arith) (λ k d low high. front (suc k) d (omega arith) (omega arith)) (λ k d low high. back (suc k) d (omega arith) (omega arith))))

pub last_is_above-at : (t : Tree) (p : PathNames) (i : ℕ) (d e : Item) → i + 1 ≡ length t → last_is_above t p ≡ (is_a_file (get_or t i d).1 && is_below (get_or t i e).0 p)
last_is_above-at [] p i d e at = absurd (omega arith)
last_is_above-at (f ∷ []) p zero d e at = refl
last_is_above-at (f ∷ []) p (suc i) d e at = absurd (omega arith)
last_is_above-at (f ∷ g ∷ gs) p zero d e at = absurd (omega arith)
last_is_above-at (f ∷ g ∷ gs) p (suc i) d e at = last_is_above-at (g ∷ gs) p i d e (omega arith)

pub last_name_is-at : (names : List Bytes) (n : Bytes) (i : ℕ) (d : Bytes) → i + 1 ≡ length names → last_name_is names n ≡ same_name n (get_or names i d)
last_name_is-at [] n i d e = absurd (omega arith)
last_name_is-at (k ∷ []) n zero d e = refl
last_name_is-at (k ∷ []) n (suc i) d e = absurd (omega arith)
last_name_is-at (k ∷ j ∷ js) n zero d e = absurd (omega arith)
last_name_is-at (k ∷ j ∷ js) n (suc i) d e = last_name_is-at (j ∷ js) n i d (omega arith)

-- how far the entries below a path reach
pub count_below-more : (t : Tree) (p : PathNames) (i : ℕ) (d : Item) → i < length t → is_below p (get_or t i d).0 ≡ true → count_below (drop i t) p ≡ 1 + count_below (drop (i + 1) t) p
count_below-more t p i d within is = rw (drop-cons t i d within, is, add-one) refl

pub count_below-end : (t : Tree) (p : PathNames) (i : ℕ) (d : Item) → i < length t → is_below p (get_or t i d).0 ≡ false → count_below (drop i t) p ≡ 0
count_below-end t p i d within is = rw (drop-cons t i d within, is) refl

pub count_below-none : (t : Tree) (p : PathNames) (i : ℕ) → length t ≤ i → count_below (drop i t) p ≡ 0
count_below-none t p i out = rw (drop_all i t out) refl
