-- An object stays where there is room for it after the objects before it.
use Rattle.std.proofs.Common.{◌≡◌, ℕ, zero, suc, ◌+◌, ◌≤◌, Bool, true, false, cond, List, [], ◌∷◌, ◌++◌, take, Option, Some, None, slice_get, refl, ap, sym, ◌∙◌, subst, arith, eqb, leb, ◌⊎◌, inl, inr}
use Rattle.std.specs.List.{count_by}
use Rattle.std.proofs.lemmas.Option.{same_Some}
use Rattle.std.proofs.lemmas.List.Sums.{sum_by-cons, sum_by_push}
use Rattle.std.proofs.lemmas.Bool.Decides.{nat_tests}
use Rattle.module_packer.specs.declared.packing.TheConstants.{ROOM}
use Rattle.module_packer.specs.Placement.{fresh, sum_in}
use Rattle.module_packer.specs.Kept.{Placed, Filled, sizes_in, in_use, stays, if_stays, filled_with, first_pass, first_filled, filled_after, second_pass, two_passes, within, kept_modules, from_one, is_module, bytes_of, HasRoomAfter, ObjectsStay}
use Rattle.module_packer.proofs.Telling.{none_summed, used_push}

-- there is room for it beside what is placed and what comes before it
record Fits (filled : Filled) (m : ℕ) (before : List Placed) (size : ℕ) : Type 0 where
  or_alone : (sum_in filled m + bytes_of m before + size ≤ ROOM) ⊎ ((in_use filled m ≡ false) × (count_by (λ (o : Placed). is_module m o.1) before ≡ 0))

fits_here : (filled : Filled) (m size : ℕ) → Fits filled m [] size → stays filled size m ≡ true
fits_here filled m size fits = go fits.or_alone where
  small : sum_in filled m + size ≤ ROOM → stays filled size m ≡ true
  small le =
      let a : leb size ROOM ≡ true = grind (arith, nat_tests) in
      let b : leb (sum_in filled m + size) ROOM ≡ true = grind (arith, nat_tests) in
      rw (a, b) refl

  unused : in_use filled m ≡ false → (b : Bool) → leb size ROOM ≡ b → stays filled size m ≡ true
  unused none true e = let le : size ≤ ROOM = grind (arith, nat_tests, e) in small (omega (arith, le, none_summed filled m none))
  unused none false e = rw (e, none) refl

  go : (sum_in filled m + 0 + size ≤ ROOM) ⊎ ((in_use filled m ≡ false) × (count_by (λ (o : Placed). is_module m o.1) [] ≡ 0)) → stays filled size m ≡ true
  go (inl le) = small (omega (arith, le))
  go (inr none) = unused none.0 (leb size ROOM) refl

-- one more object that is placed where it was
fits_with : (filled : Filled) (m n size : ℕ) (os : List Placed) (small : ℕ) → Fits filled m ((size, Some n) ∷ os) small → Fits (filled ++ (n, size) ∷ []) m os small
fits_with filled m n size os small fits = record { or_alone = go fits.or_alone } where
  summed : sum_in (filled ++ (n, size) ∷ []) m ≡ sum_in filled m + cond (eqb n m) size 0
  summed = sum_by_push (λ (e : ℕ × ℕ). cond (eqb e.0 m) e.1 0) filled (n, size)

  later : bytes_of m ((size, Some n) ∷ os) ≡ cond (eqb n m) size 0 + bytes_of m os
  later = sum_by-cons (λ (o : Placed). cond (is_module m o.1) o.0 0) (size, Some n) os

  counted : count_by (λ (o : Placed). is_module m o.1) ((size, Some n) ∷ os) ≡ cond (eqb n m) 1 0 + count_by (λ (o : Placed). is_module m o.1) os
  counted = sum_by-cons (λ (o : Placed). cond (is_module m o.1) 1 0) (size, Some n) os

  other : (b : Bool) → eqb n m ≡ b → in_use filled m ≡ false → cond {A = ℕ} b 1 0 + count_by (λ (o : Placed). is_module m o.1) os ≡ 0
      → (in_use (filled ++ (n, size) ∷ []) m ≡ false) × (count_by (λ (o : Placed). is_module m o.1) os ≡ 0)
  other true e none zero_is = absurd (omega (arith, zero_is))
  other false e none zero_is = (used_push filled n size m ∙ rw (none, e) refl, omega (arith, zero_is))

  go : (sum_in filled m + bytes_of m ((size, Some n) ∷ os) + small ≤ ROOM) ⊎ ((in_use filled m ≡ false) × (count_by (λ (o : Placed). is_module m o.1) ((size, Some n) ∷ os) ≡ 0))
      → (sum_in (filled ++ (n, size) ∷ []) m + bytes_of m os + small ≤ ROOM) ⊎ ((in_use (filled ++ (n, size) ∷ []) m ≡ false) × (count_by (λ (o : Placed). is_module m o.1) os ≡ 0))
  go (inl le) = inl (omega (arith, le, summed, later))
  go (inr none) = inr (other (eqb n m) refl none.0 (sym counted ∙ none.1))

-- one more object that isn't
fits_without : (filled : Filled) (m size : ℕ) (old : Option ℕ) (os : List Placed) (small : ℕ) → Fits filled m ((size, old) ∷ os) small → Fits filled m os small
fits_without filled m size old os small fits = record { or_alone = go fits.or_alone } where
  later : bytes_of m ((size, old) ∷ os) ≡ cond (is_module m old) size 0 + bytes_of m os
  later = sum_by-cons (λ (o : Placed). cond (is_module m o.1) o.0 0) (size, old) os

  counted : count_by (λ (o : Placed). is_module m o.1) ((size, old) ∷ os) ≡ cond (is_module m old) 1 0 + count_by (λ (o : Placed). is_module m o.1) os
  counted = sum_by-cons (λ (o : Placed). cond (is_module m o.1) 1 0) (size, old) os

  go : (sum_in filled m + bytes_of m ((size, old) ∷ os) + small ≤ ROOM) ⊎ ((in_use filled m ≡ false) × (count_by (λ (o : Placed). is_module m o.1) ((size, old) ∷ os) ≡ 0))
      → (sum_in filled m + bytes_of m os + small ≤ ROOM) ⊎ ((in_use filled m ≡ false) × (count_by (λ (o : Placed). is_module m o.1) os ≡ 0))
  go (inl le) = inl (omega (arith, le, later))
  go (inr none) = inr (none.0, omega (arith, none.1, counted))

fits_next : (filled : Filled) (m size : ℕ) (old : Option ℕ) (os : List Placed) (small : ℕ) → Fits filled m ((size, old) ∷ os) small → Fits (filled_with filled (if_stays filled size old) size) m os small
fits_next filled m size None os small fits = fits_without filled m size None os small fits
fits_next filled m size (Some n) os small fits = go (stays filled size n) where
  go : (b : Bool) → Fits (filled_with filled (cond b (Some n) None) size) m os small
  go true = fits_with filled m n size os small fits
  go false = fits_without filled m size (Some n) os small fits

stays_at : (limit : ℕ) (os : List Placed) (filled full : Filled) (k m : ℕ) (o : Placed) → slice_get os k ≡ Some o → o.1 ≡ Some m → Fits filled m (take k os) o.0
    → slice_get (second_pass limit full (first_pass filled os)) k ≡ Some m
stays_at limit [] filled full k m o at was fits = cc
stays_at limit (x ∷ xs) filled full zero m o at was fits =
    let same : x ≡ o = same_Some x o at in
    let old : x.1 ≡ Some m = ap (λ y. y.1) same ∙ was in
    let stay : stays filled x.0 m ≡ true = fits_here filled m x.0 (subst (λ y. Fits filled m [] y.0) (sym same) fits) in
    let is : if_stays filled x.0 x.1 ≡ Some m = rw (old, stay) refl in
    rw is refl
stays_at limit (x ∷ xs) filled full (suc k) m o at was fits =
    stays_at limit xs (filled_with filled (if_stays filled x.0 x.1) x.0) (filled_after limit full x.0 (if_stays filled x.0 x.1)) k m o at was (fits_next filled m x.0 x.1 (take k xs) o.0 fits)

tried_stays : (limit : ℕ) (objects : List Placed) (k m : ℕ) (o : Placed) → slice_get (from_one objects) k ≡ Some o → o.1 ≡ Some m → HasRoomAfter m (take k (from_one objects)) o.0 → slice_get (two_passes limit objects) k ≡ Some m
tried_stays limit [] k m o at was fits = cc
tried_stays limit (x ∷ xs) zero m o at was fits = ap (λ y. y.1) (same_Some (x.0, Some 1) o at) ∙ was
tried_stays limit (x ∷ xs) (suc k) m o at was fits =
    let start : Fits [] m ((x.0, Some 1) ∷ take k xs) o.0 = record { or_alone = begins fits } in
    stays_at limit xs ((1, x.0) ∷ []) (first_filled ((1, x.0) ∷ []) xs) k m o at was (fits_with [] m 1 x.0 (take k xs) o.0 start) where
      before : List Placed
      before = (x.0, Some 1) ∷ take k xs

      begins : (bytes_of m before + o.0 ≤ ROOM) ⊎ (count_by (λ (y : Placed). is_module m y.1) before ≡ 0)
          → (sum_in [] m + bytes_of m before + o.0 ≤ ROOM) ⊎ ((in_use [] m ≡ false) × (count_by (λ (y : Placed). is_module m y.1) before ≡ 0))
      begins (inl le) = inl (omega (arith, le))
      begins (inr none) = inr (refl, none)

pub objects_stay : ObjectsStay
unfolding kept_modules
objects_stay limit objects = go (within limit (two_passes limit objects)) where
  go : (b : Bool) → (cond b (two_passes limit objects) (fresh (sizes_in objects)) ≡ fresh (sizes_in objects))
      ⊎ ((k m : ℕ) (o : Placed) → slice_get (from_one objects) k ≡ Some o → o.1 ≡ Some m → HasRoomAfter m (take k (from_one objects)) o.0 → slice_get (cond b (two_passes limit objects) (fresh (sizes_in objects))) k ≡ Some m)
  go true = inr (λ k m o at was fits. tried_stays limit objects k m o at was fits)
  go false = inl refl
