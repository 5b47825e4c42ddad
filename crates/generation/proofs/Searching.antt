-- Items in the order of a key, which are found by halves: those of a key, the modules of a group, and the module of an id.
use Rattle.std.proofs.Common.{◌≡◌, ℕ, zero, suc, ◌≤◌, ◌∙◌, ◌-◌, true, false, Bool, not, ◌&&◌, sym, Some, IfSome, List, [], ◌∷◌, length, map, get_or, take, drop, refl, ap, arith, inl, inr, ◌==◌}
use Rattle.std.specs.Prelude.{nat_lt, nat_le}
use Rattle.std.specs.List.Sorted.{IsNonDecreasingBy, IsPartitionPoint, IsPartitionedBy, IsStableByKey, ties}
use Rattle.std.proofs.lemmas.List.Elements.{filter_agree}
use Rattle.std.specs.Ordering.{is_lt, nat_cmp}
use Rattle.std.proofs.lemmas.List.{length-drop}
use Rattle.std.proofs.lemmas.List.Sorted.{IsNonDecreasingBy-take, IsPartitionedBy-leb}
use Rattle.generation.proofs.Words.{option_map, Layout, AreMarked, IsMarked, same_module, eqb-true, All-tail, cases_eq, cases_Bool, get_or-map, length-map, Bytes, module_in, IsRising, view_listed, Listed, IsPartitionedBy-ltb, filter, groups_rise, group_of, take_all, slice_get, common_steps, nat_tests}

-- what passes a test stands before a point, and the rest from it on
abbrev IsPoint : {X : Type 0} → (X → Bool) → List X → ℕ → Type 0
IsPoint p = IsPartitionPoint (λ x. p x ≡ true) (λ x. p x ≡ false)

parts : {X : Type 0} (p : X → Bool) (xs : List X) (i : ℕ) → i ≤ length xs → IsPoint p xs i → (take i xs ≡ filter p xs) × (drop i xs ≡ filter (λ x. not (p x)) xs)
parts p [] zero le point = (refl, refl)
parts p [] (suc i) le point = absurd (omega arith)
parts p (x ∷ xs) zero le point =
    let h = parts p xs 0 (omega arith) (λ k d low lt. absurd (omega arith), λ k d low lt. point.1 (suc k) d (omega arith) (omega arith)) in
    rw (point.1 0 x (omega arith) (omega arith)) (h.0, ap (λ l. x ∷ l) h.1)
parts p (x ∷ xs) (suc i) le point =
    let h = parts p xs i (omega arith) (λ k d low lt. point.0 (suc k) d (omega arith) (omega arith), λ k d low lt. point.1 (suc k) d (omega arith) (omega arith)) in
    rw (point.0 0 x (omega arith) (omega arith)) (ap (λ l. x ∷ l) h.0, h.1)

both : {X : Type 0} (n : X → ℕ) (k : ℕ) (xs : List X) → filter (λ x. not (nat_lt (n x) k)) (filter (λ x. nat_le (n x) k) xs) ≡ filter (λ x. n x == k) xs
both n k [] = refl
both n k (x ∷ xs) = grind (arith, nat_tests, common_steps, both n k xs)

-- the items of a key stand between two points
pub of_key_is : {X : Type 0} (n : X → ℕ) (k : ℕ) (xs : List X) (end first : ℕ) → IsNonDecreasingBy n xs → end ≤ length xs → first ≤ length (take end xs)
    → (IsPartitionedBy (λ x. nat_le (n x) k) xs → IsPoint (λ x. nat_le (n x) k) xs end)
    → (IsPartitionedBy (λ x. nat_lt (n x) k) (take end xs) → IsPoint (λ x. nat_lt (n x) k) (take end xs) first)
    → take (length (take end xs) - first) (drop first (take end xs)) ≡ filter (λ x. n x == k) xs
of_key_is n k xs end first up within inside low high =
    let up_to = take end xs in
    take_all (length up_to - first) (drop first up_to) (omega (arith, length-drop first up_to))
    ∙ ((parts (λ x. nat_lt (n x) k) up_to first inside (high (IsPartitionedBy-ltb n up_to k (IsNonDecreasingBy-take n end xs up)))).1
    ∙ (ap (filter (λ x. not (nat_lt (n x) k))) (parts (λ x. nat_le (n x) k) xs end within (low (IsPartitionedBy-leb n xs k up))).0 ∙ both n k xs))

-- a stable sort keeps the items of a key in their order
tie_is : (a b : ℕ) → not (is_lt (nat_cmp a b)) && not (is_lt (nat_cmp b a)) ≡ (b == a)
tie_is a b = grind (arith, nat_tests)

pub stable_at : {X : Type 0} (n : X → ℕ) (xs ys : List X) → IsStableByKey n nat_cmp xs ys → (x : X) → filter (λ y. n y == n x) ys ≡ filter (λ y. n y == n x) xs
stable_at {X} n xs ys stable x =
    let same : (zs : List X) → filter (ties (λ y z. is_lt (nat_cmp (n y) (n z))) x) zs ≡ filter (λ y. n y == n x) zs = filter_agree _ (λ y. n y == n x) (λ y. tie_is (n x) (n y)) in
    sym (same ys) ∙ (stable x ∙ same xs)

-- ---- modules, which rise by id

pub ids_up : (ms : List Listed) → IsRising (map view_listed ms) → IsNonDecreasingBy (λ l. l.id) ms
ids_up ms is i j d le inside = elim (cases_eq i j) [
  | inl same ↦ omega (arith, ap (λ k. (get_or ms k d).id) same)
  | inr ne ↦ omega (arith, is.rising i j (view_listed d) (omega (arith, le, ne)) (omega (arith, length-map ms view_listed, inside)), ap (λ (m : ℕ × Bytes). m.0) (get_or-map view_listed ms i d (view_listed d) (omega (arith, le, inside))), ap (λ (m : ℕ × Bytes). m.0) (get_or-map view_listed ms j d (view_listed d) inside))
]

pub groups_up : (ms : List Listed) → IsRising (map view_listed ms) → IsNonDecreasingBy (λ l. group_of l.id) ms
groups_up ms is i j d le inside = groups_rise (get_or ms i d).id (get_or ms j d).id (ids_up ms is i j d le inside)

-- the module of an id, and its mark
pub listed_first : (ms : List Listed) (id : ℕ) → option_map (λ l. l.bytes) (slice_get (filter (λ l. l.id == id) ms) 0) ≡ module_in (map view_listed ms) id
listed_first [] id = refl
listed_first (m ∷ ms) id = elim (cases_Bool (m.id == id)) [ inl h ↦ rw h refl | inr h ↦ rw h (listed_first ms id) ]

pub marked_first : (before : Layout) (ms : List Listed) (id : ℕ) → AreMarked before ms → IfSome (slice_get (filter (λ l. l.id == id) ms) 0) (λ l. l.stays ≡ same_module (module_in before id) (Some l.bytes))
marked_first before [] id marked = tt
marked_first before (m ∷ ms) id marked = elim (cases_Bool (m.id == id)) [
  | inl h ↦ rw h (marked 0 m (omega arith) ∙ ap (λ j. same_module (module_in before j) (Some m.bytes)) (eqb-true m.id id h))
  | inr h ↦ rw h (marked_first before ms id (All-tail (IsMarked before) m ms marked))
]

-- what is kept by a test of what is seen
pub filter_seen : {A B : Type 0} (f : A → B) (p : B → Bool) (xs : List A) → map f (filter (λ x. p (f x)) xs) ≡ filter p (map f xs)
filter_seen f p [] = refl
filter_seen f p (x ∷ xs) = elim (cases_Bool (p (f x))) [ inl e ↦ rw e (ap (λ l. f x ∷ l) (filter_seen f p xs)) | inr e ↦ rw e (filter_seen f p xs) ]
