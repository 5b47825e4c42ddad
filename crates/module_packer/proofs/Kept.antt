-- What a kept placement has.
use Rattle.std.proofs.Common.{◌≡◌, ℕ, zero, suc, ◌+◌, ◌<◌, ◌≤◌, Bool, true, false, cond, not, ◌&&◌, ◌||◌, List, [], ◌∷◌, ◌++◌, length, Option, Some, None, refl, ap, sym, ◌∙◌, subst, arith, get_or, eqb, leb, add-zero, ◌⊎◌, inl, inr}
use Rattle.std.specs.List.{All, sum_by, count_by, zip}
use Rattle.std.specs.Option.{unwrap_or}
use Rattle.std.proofs.lemmas.List.Sums.{sum_by-cons, sum_by_push, AllPass-from_list_all}
use Rattle.std.proofs.lemmas.List.Elements.{All-nil, All-cons, All-head, All-tail}
use Rattle.std.proofs.lemmas.Bool.{cases_eq, eq-eqb, ne_eqb, leb-true}
use Rattle.module_packer.specs.declared.packing.TheConstants.{ROOM}
use Rattle.module_packer.specs.Placement.{fresh, sum_in, IsPlacement}
use Rattle.module_packer.specs.Kept.{Placed, Filled, sizes_in, in_use, has_room, stays, if_stays, filled_with, first_pass, first_filled, least_with, shared_by, or_new, moved_to, second_pass, two_passes, within, kept_modules, KeptIsAPlacement}
use Rattle.module_packer.proofs.Fresh.{fresh_is}

-- ---- how many objects a module has, and that none is overfull

abbrev IsFilled : Filled → Type 0
IsFilled filled = (m : ℕ) → 1 < count_by (λ e. eqb e.0 m) filled → sum_in filled m ≤ ROOM

none_in : (filled : Filled) (m : ℕ) → in_use filled m ≡ false → count_by (λ e. eqb e.0 m) filled ≡ 0
none_in [] m e = refl
none_in (x ∷ xs) m e = go (eqb x.0 m) refl e (λ f. none_in xs m f) where
  go : (b : Bool) → eqb x.0 m ≡ b → (b || in_use xs m) ≡ false → (in_use xs m ≡ false → count_by (λ e. eqb e.0 m) xs ≡ 0) → count_by (λ e. eqb e.0 m) (x ∷ xs) ≡ 0
  go true h f rest = cc
  go false h f rest =
      let none : cond {A = ℕ} (eqb x.0 m) 1 0 ≡ 0 = rw h refl in
      omega (arith, none, rest f, sum_by-cons (λ (e : ℕ × ℕ). cond (eqb e.0 m) 1 0) x xs)

-- one more object: where it is alone, or where there is room for it
fill : (filled : Filled) (n size : ℕ) → IsFilled filled → (in_use filled n ≡ false) ⊎ (sum_in filled n + size ≤ ROOM) → IsFilled (filled ++ (n, size) ∷ [])
fill filled n size is where' m many = by_place (cases_eq n m) where
  counted : count_by (λ e. eqb e.0 m) (filled ++ (n, size) ∷ []) ≡ count_by (λ e. eqb e.0 m) filled + cond (eqb n m) 1 0
  counted = sum_by_push (λ e. cond (eqb e.0 m) 1 0) filled (n, size)

  summed : sum_in (filled ++ (n, size) ∷ []) m ≡ sum_in filled m + cond (eqb n m) size 0
  summed = sum_by_push (λ e. cond (eqb e.0 m) e.1 0) filled (n, size)

  here : n ≡ m → (in_use filled n ≡ false) ⊎ (sum_in filled n + size ≤ ROOM) → sum_in (filled ++ (n, size) ∷ []) m ≤ ROOM
  here e (inl alone) =
      let none : count_by (λ e. eqb e.0 m) filled ≡ 0 = none_in filled m (subst (λ k. in_use filled k ≡ false) e alone) in
      let one : cond {A = ℕ} (eqb n m) 1 0 ≡ 1 = rw (eq-eqb n m e) refl in
      absurd (omega (arith, many, counted, none, one))
  here e (inr fits) =
      let all : cond (eqb n m) size 0 ≡ size = rw (eq-eqb n m e) refl in
      let h : sum_in filled m + size ≤ ROOM = subst (λ k. sum_in filled k + size ≤ ROOM) e fits in
      omega (arith, summed, all, h)

  by_place : (n ≡ m) ⊎ (n ≡ m → ⊥) → sum_in (filled ++ (n, size) ∷ []) m ≤ ROOM
  by_place (inl e) = here e where'
  by_place (inr e) =
      let none : cond {A = ℕ} (eqb n m) 1 0 ≡ 0 = rw (ne_eqb n m e) refl in
      let nothing : cond (eqb n m) size 0 ≡ 0 = rw (ne_eqb n m e) refl in
      omega (arith, summed, nothing, is m (omega (arith, many, counted, none)))

-- ---- the first pass

stays_well : (filled : Filled) (size m : ℕ) → stays filled size m ≡ true → (in_use filled m ≡ false) ⊎ (sum_in filled m + size ≤ ROOM)
stays_well filled size m e = go (leb size ROOM) e where
  by_use : (b : Bool) → in_use filled m ≡ b → not b ≡ true → in_use filled m ≡ false
  by_use true u f = cc
  by_use false u f = u

  go : (small : Bool) → cond small (has_room filled size m) (not (in_use filled m)) ≡ true → (in_use filled m ≡ false) ⊎ (sum_in filled m + size ≤ ROOM)
  go true f = inr (leb-true (sum_in filled m + size) ROOM f)
  go false f = inl (by_use (in_use filled m) refl f)

fill_staying : (filled : Filled) (size : ℕ) (old : Option ℕ) → IsFilled filled → IsFilled (filled_with filled (if_stays filled size old) size)
fill_staying filled size None is = is
fill_staying filled size (Some m) is = go (stays filled size m) refl where
  go : (b : Bool) → stays filled size m ≡ b → IsFilled (filled_with filled (cond b (Some m) None) size)
  go true e = fill filled m size is (stays_well filled size m e)
  go false e = is

fill_first : (os : List Placed) (filled : Filled) → IsFilled filled → IsFilled (first_filled filled os)
fill_first [] filled is = is
fill_first (o ∷ os) filled is = fill_first os (filled_with filled (if_stays filled o.0 o.1) o.0) (fill_staying filled o.0 o.1 is)

-- ---- the second pass

-- the number that is looked for passes the test, and lies from the first one on
least_passes : (test : ℕ → Bool) (n a m : ℕ) → least_with test n a ≡ Some m → (test m ≡ true) × (a ≤ m)
unfolding least_with
least_passes test zero a m e = cc
least_passes test (suc n) a m e = go (test a) refl e (λ f. least_passes test n (a + 1) m f) where
  go : (b : Bool) → test a ≡ b → cond b (Some a) (least_with test n (a + 1)) ≡ Some m → (least_with test n (a + 1) ≡ Some m → (test m ≡ true) × (a + 1 ≤ m)) → (test m ≡ true) × (a ≤ m)
  go true t f later = let same : a ≡ m = cc in (subst (λ k. test k ≡ true) same t, omega (arith, same))
  go false t f later = let rest = later f in (rest.0, omega (arith, rest.1))

-- where an object goes that doesn't stay
record IsNew (limit : ℕ) (filled : Filled) (size m : ℕ) : Type 0 where
  one : 1 ≤ m
  room_there : m ≤ limit → (in_use filled m ≡ false) ⊎ (sum_in filled m + size ≤ ROOM)

new_is : (limit : ℕ) (filled : Filled) (size : ℕ) (shared : Option ℕ) → shared_by limit filled size ≡ shared → IsNew limit filled size (or_new limit filled shared)
new_is limit filled size (Some m) e = go (leb size ROOM) e where
  go : (small : Bool) → cond small (least_with (λ m. in_use filled m && has_room filled size m) limit 1) None ≡ Some m → IsNew limit filled size m
  go true f =
      let is = least_passes (λ m. in_use filled m && has_room filled size m) limit 1 m f in
      record { one = is.1; room_there = λ le. inr (fits (in_use filled m) (has_room filled size m) refl is.0) } where
        fits : (u r : Bool) → has_room filled size m ≡ r → (u && r) ≡ true → sum_in filled m + size ≤ ROOM
        fits true true h f = leb-true (sum_in filled m + size) ROOM h
        fits true false h f = cc
        fits false r h f = cc
  go false f = cc
new_is limit filled size None e = go (least_with (λ m. not (in_use filled m)) limit 1) refl where
  go : (found : Option ℕ) → least_with (λ m. not (in_use filled m)) limit 1 ≡ found → IsNew limit filled size (unwrap_or found (limit + 1))
  go (Some m) f =
      let is = least_passes (λ m. not (in_use filled m)) limit 1 m f in
      record { one = is.1; room_there = λ le. inl (unused (in_use filled m) refl is.0) } where
        unused : (b : Bool) → in_use filled m ≡ b → not b ≡ true → in_use filled m ≡ false
        unused true u f = cc
        unused false u f = u
  go None f = record { one = omega arith; room_there = λ le. absurd (omega (arith, le)) }

moved_is : (limit : ℕ) (filled : Filled) (size : ℕ) → IsNew limit filled size (moved_to limit filled size)
moved_is limit filled size = new_is limit filled size (shared_by limit filled size) refl

-- what is placed after the second pass
all_filled : ℕ → Filled → List Placed → Filled
all_filled limit filled [] = filled
all_filled limit filled ((size, Some m) ∷ os) = all_filled limit filled os
all_filled limit filled ((size, None) ∷ os) = all_filled limit (filled ++ (moved_to limit filled size, size) ∷ []) os

fill_second : (limit : ℕ) (os : List Placed) (filled : Filled) → IsFilled filled → All (λ m. m ≤ limit) (second_pass limit filled os) → IsFilled (all_filled limit filled os)
unfolding all_filled
fill_second limit [] filled is all = is
fill_second limit ((size, Some m) ∷ os) filled is all = fill_second limit os filled is (All-tail (λ m. m ≤ limit) m (second_pass limit filled os) all)
fill_second limit ((size, None) ∷ os) filled is all =
    let m = moved_to limit filled size in
    let low : m ≤ limit = All-head (λ m. m ≤ limit) m (second_pass limit (filled ++ (m, size) ∷ []) os) all in
    fill_second limit os (filled ++ (m, size) ∷ []) (fill filled m size is ((moved_is limit filled size).room_there low))
    (All-tail (λ m. m ≤ limit) m (second_pass limit (filled ++ (m, size) ∷ []) os) all)

-- ---- all objects are placed, each once

-- what the objects that stay add
kept_sum : (ℕ × ℕ → ℕ) → List Placed → ℕ
kept_sum f [] = 0
kept_sum f ((size, Some m) ∷ os) = f (m, size) + kept_sum f os
kept_sum f ((size, None) ∷ os) = kept_sum f os

first_sum : (f : ℕ × ℕ → ℕ) (os : List Placed) (filled : Filled) → sum_by f (first_filled filled os) ≡ sum_by f filled + kept_sum f (first_pass filled os)
unfolding kept_sum
first_sum f [] filled = sym (add-zero (sum_by f filled))
first_sum f (o ∷ os) filled = go (if_stays filled o.0 o.1) (first_sum f os (filled_with filled (if_stays filled o.0 o.1) o.0)) where
  go : (m : Option ℕ) → sum_by f (first_filled (filled_with filled m o.0) os) ≡ sum_by f (filled_with filled m o.0) + kept_sum f (first_pass (filled_with filled m o.0) os)
      → sum_by f (first_filled (filled_with filled m o.0) os) ≡ sum_by f filled + kept_sum f ((o.0, m) ∷ first_pass (filled_with filled m o.0) os)
  go None rest = rest
  go (Some m) rest = omega (arith, rest, sum_by_push f filled (m, o.0))

second_sum : (f : ℕ × ℕ → ℕ) (limit : ℕ) (os : List Placed) (filled : Filled)
    → sum_by f (all_filled limit filled os) + kept_sum f os ≡ sum_by f filled + sum_by f (zip (second_pass limit filled os) (sizes_in os))
unfolding kept_sum all_filled
second_sum f limit [] filled = refl
second_sum f limit ((size, Some m) ∷ os) filled = omega (arith, second_sum f limit os filled, sum_by-cons f (m, size) (zip (second_pass limit filled os) (sizes_in os)))
second_sum f limit ((size, None) ∷ os) filled =
    let m = moved_to limit filled size in
    omega (arith, second_sum f limit os (filled ++ (m, size) ∷ []), sum_by_push f filled (m, size), sum_by-cons f (m, size) (zip (second_pass limit (filled ++ (m, size) ∷ []) os) (sizes_in os)))

same_sizes : (os : List Placed) (filled : Filled) → sizes_in (first_pass filled os) ≡ sizes_in os
same_sizes [] filled = refl
same_sizes (o ∷ os) filled = ap (λ sizes. o.0 ∷ sizes) (same_sizes os (filled_with filled (if_stays filled o.0 o.1) o.0))

-- what is placed in the end is each object in its module
placed_sum : (f : ℕ × ℕ → ℕ) (limit : ℕ) (o : Placed) (os : List Placed)
    → sum_by f (all_filled limit (first_filled ((1, o.0) ∷ []) os) (first_pass ((1, o.0) ∷ []) os)) ≡ sum_by f (zip (two_passes limit (o ∷ os)) (sizes_in (o ∷ os)))
placed_sum f limit o os =
    let start : Filled = (1, o.0) ∷ [] in
    let filled : Filled = first_filled start os in
    let passed : List Placed = first_pass start os in
    let rest : sum_by f (zip (second_pass limit filled passed) (sizes_in passed)) ≡ sum_by f (zip (second_pass limit filled passed) (sizes_in os)) =
    ap (λ sizes. sum_by f (zip (second_pass limit filled passed) sizes)) (same_sizes os start) in
    omega (arith, first_sum f os start, second_sum f limit passed filled, rest, sum_by-cons f (1, o.0) [], sum_by-cons f (1, o.0) (zip (second_pass limit filled passed) (sizes_in os)))

-- ---- the parts of a placement

length_second : (limit : ℕ) (os : List Placed) (filled : Filled) → length (second_pass limit filled os) ≡ length os
length_second limit [] filled = refl
length_second limit ((size, Some m) ∷ os) filled = ap suc (length_second limit os filled)
length_second limit ((size, None) ∷ os) filled = ap suc (length_second limit os (filled ++ (moved_to limit filled size, size) ∷ []))

length_sizes : (os : List Placed) → length (sizes_in os) ≡ length os
length_sizes [] = refl
length_sizes (o ∷ os) = ap suc (length_sizes os)

length_tried : (limit : ℕ) (objects : List Placed) → length (two_passes limit objects) ≡ length (sizes_in objects)
length_tried limit [] = refl
length_tried limit (o ∷ os) =
    let start : Filled = (1, o.0) ∷ [] in
    let passed = length_second limit (first_pass start os) (first_filled start os) in
    let sizes = length_sizes (first_pass start os) in
    let same = ap length (same_sizes os start) in
    ap suc (passed ∙ (sym sizes ∙ same))

zip_count : (ms sizes : List ℕ) (m : ℕ) → length ms ≡ length sizes → count_by (λ n. eqb n m) ms ≡ count_by (λ e. eqb e.0 m) (zip ms sizes)
zip_count [] sizes m e = refl
zip_count (n ∷ ns) [] m e = absurd (omega (arith, e))
zip_count (n ∷ ns) (size ∷ sizes) m e =
    omega (arith, zip_count ns sizes m (omega (arith, e)), sum_by-cons (λ (k : ℕ). cond (eqb k m) 1 0) n ns, sum_by-cons (λ (x : ℕ × ℕ). cond (eqb x.0 m) 1 0) (n, size) (zip ns sizes))

-- a fact about each old module
abbrev pub OfOld : (ℕ → Type 0) → List Placed → Type 0
OfOld P os = All (λ o. (m : ℕ) → o.1 ≡ Some m → P m) os

pub old_after : (P : ℕ → Type 0) (os : List Placed) (filled : Filled) → OfOld P os → OfOld P (first_pass filled os)
old_after P [] filled old = All-nil (λ (o : Placed). (m : ℕ) → o.1 ≡ Some m → P m)
old_after P (o ∷ os) filled old =
    All-cons (λ (o : Placed). (m : ℕ) → o.1 ≡ Some m → P m) (o.0, if_stays filled o.0 o.1) (first_pass (filled_with filled (if_stays filled o.0 o.1) o.0) os)
    (λ m e. here o.1 (λ n is. old 0 o (omega arith) n is) m e)
    (old_after P os (filled_with filled (if_stays filled o.0 o.1) o.0) (All-tail (λ (o : Placed). (m : ℕ) → o.1 ≡ Some m → P m) o os old)) where
      here : (was : Option ℕ) → ((n : ℕ) → was ≡ Some n → P n) → (m : ℕ) → if_stays filled o.0 was ≡ Some m → P m
      here None h m e = cc
      here (Some n) h m e = go (stays filled o.0 n) e where
        go : (b : Bool) → cond b (Some n) None ≡ Some m → P m
        go true f = let same : n ≡ m = cc in subst P same (h n refl)
        go false f = cc

numbers_second : (limit : ℕ) (os : List Placed) (filled : Filled) → OfOld (λ m. 1 ≤ m) os → All (λ m. 1 ≤ m) (second_pass limit filled os)
numbers_second limit [] filled old = All-nil (λ m. 1 ≤ m)
numbers_second limit ((size, Some m) ∷ os) filled old =
    All-cons (λ m. 1 ≤ m) m (second_pass limit filled os) (old 0 (size, Some m) (omega arith) m refl)
    (numbers_second limit os filled (All-tail (λ (o : Placed). (m : ℕ) → o.1 ≡ Some m → 1 ≤ m) (size, Some m) os old))
numbers_second limit ((size, None) ∷ os) filled old =
    All-cons (λ m. 1 ≤ m) (moved_to limit filled size) (second_pass limit (filled ++ (moved_to limit filled size, size) ∷ []) os) (moved_is limit filled size).one
    (numbers_second limit os (filled ++ (moved_to limit filled size, size) ∷ []) (All-tail (λ (o : Placed). (m : ℕ) → o.1 ≡ Some m → 1 ≤ m) (size, None) os old))

one_filled : (size : ℕ) → IsFilled ((1, size) ∷ [])
one_filled size m many = fill [] 1 size (λ k h. absurd (omega (arith, h))) (inl refl) m many

tried_is : (limit : ℕ) (objects : List Placed) → 0 < length objects → OfOld (λ m. 1 ≤ m) objects → within limit (two_passes limit objects) ≡ true → IsPlacement limit (sizes_in objects) (two_passes limit objects)
tried_is limit [] some old low = absurd (omega (arith, some))
tried_is limit (o ∷ os) some old low =
    let start : Filled = (1, o.0) ∷ [] in
    let filled : Filled = first_filled start os in
    let passed : List Placed = first_pass start os in
    let ms : List ℕ = two_passes limit (o ∷ os) in
    let later : List ℕ = second_pass limit filled passed in
    let rest : OfOld (λ m. 1 ≤ m) os = All-tail (λ (o : Placed). (m : ℕ) → o.1 ≡ Some m → 1 ≤ m) o os old in
    let from_one : All (λ m. 1 ≤ m) ms = All-cons (λ m. 1 ≤ m) 1 later (omega arith) (numbers_second limit passed filled (old_after (λ m. 1 ≤ m) os start rest)) in
    let passes = AllPass-from_list_all (λ m. leb m limit) ms low in
    let up_to : All (λ m. m ≤ limit) ms = λ k d lt. leb-true (get_or ms k d) limit (passes k d lt) in
    let full = fill_second limit passed filled (fill_first os start (one_filled o.0)) (All-tail (λ m. m ≤ limit) 1 later up_to) in
    record {
      each = length_tried limit (o ∷ os);
      numbers = λ k d lt. (from_one k d lt, up_to k d lt);
      first = refl;
      sums = λ m many.
          let counted = placed_sum (λ e. cond (eqb e.0 m) 1 0) limit o os in
          let summed = placed_sum (λ e. cond (eqb e.0 m) e.1 0) limit o os in
          let zipped = zip_count ms (sizes_in (o ∷ os)) m (length_tried limit (o ∷ os)) in
          omega (arith, summed, full m (omega (arith, many, counted, zipped)));
    }

pub kept_is : KeptIsAPlacement
unfolding kept_modules
kept_is limit objects are = go (within limit (two_passes limit objects)) refl where
  go : (b : Bool) → within limit (two_passes limit objects) ≡ b → IsPlacement limit (sizes_in objects) (cond b (two_passes limit objects) (fresh (sizes_in objects)))
  go true low = tried_is limit objects are.some (λ k d lt m e. (are.old k d lt m e).0) low
  go false high = fresh_is limit (sizes_in objects) (omega (arith, are.some, length_sizes objects)) are.few
