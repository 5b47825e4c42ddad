-- The objects of a tree after those of another: their keys and modules, their sizes, and what can be placed after them.
use Rattle.std.proofs.Common.{◌≡◌, ℕ, suc, ◌+◌, ◌≤◌, Bool, true, false, not, List, [], ◌∷◌, length, map, Option, Some, None, refl, sym, ◌∙◌, ap, subst, arith, get_or, ◌==◌, nat_lt, sum, inl, inr, eqb}
use Rattle.generation.proofs.Words.{all_kept, written_in, common_steps, nat_tests, IsName, IsEntry, Written, ne_eqb, All, find, sum_by, filter, list_any, range_with_len, slice_get, zip, All-cons, All-nil, All-map, length-map, firsts-zip, seconds-zip, same_Some, GREATEST_ID, Tree, IsTree, cases_Bool, ltb-false, IsPlacement, KeptIsAPlacement, AreObjects, kept_modules, sizes_in, modules_needed, gateway_spot, AreRising, size_of, spots_of, sizes_of, binding_size, is_child, is_large_folder, large_folder, limit_of, or_else, over, Passed, placed_all, objects_after, placed_at, is_same_spot, key_in, module_of, modules_for, old_modules, fill_keys, free_keys, taken_in, old_keys, keys_of, object_bytes, key_bytes, location_of, bound_of, folder_kind_of, view_spot, view_placed, placed_from, IsSpotIn, IsId, IsWeighed, Weighed, ArePlaced, AreOld, CodeSpot, CodePlaced, Spot, Placed, entries_of, all_unmap, option_cases, and_parts, AllPairs, AllPairs-filter, eqb-true}
use Rattle.std.specs.Set.{is_member}
use Rattle.std.proofs.lemmas.Simd.{map-map}
use Rattle.std.proofs.lemmas.Cmp.{nat_eq_equiv}
use Rattle.std.proofs.lemmas.List.Filters.{length-filter_both}
use Rattle.std.proofs.lemmas.List.FromFn.{length-range_with_len, get_or-range_with_len}
use Rattle.std.proofs.lemmas.Map.Keys.{IsDistinct-from_apart}
use Rattle.std.proofs.lemmas.Map.Made.{is_member-filter, length-le_from_is_member}
use Rattle.module_packer.specs.Kept.{Placed as Sized}
use Rattle.generation.proofs.Keyed.{found_is}
use Rattle.biop_object.specs.declared.written.TheConstants.{MOST_FOLDER_SIZE}
use Rattle.biop_object.specs.Objects.{binding_size as written_size}
use Rattle.biop_object.proofs.CallerLemmas.{folder_length}
use Rattle.std.proofs.lemmas.Simd.{map-map}
use Rattle.std.proofs.lemmas.Option.{cond_some}
use Rattle.generation.proofs.Numbering.{all_valid, IsValidSpot, child_has}
use Rattle.generation.proofs.Standing.{rising_all}

-- ---- keys

-- of so many numbers at most as many aren't free as are taken
many_free : (taken : List ℕ) (n : ℕ) → n ≤ length (free_keys taken n) + length taken
many_free taken n =
    let range = range_with_len 2 n in
    let had : ℕ → Bool = λ k. list_any (λ j. j == k) taken in
    let there : (q : ℕ) → is_member eqb (filter had range) q ≡ true → is_member eqb taken q ≡ true = λ q has.
    (λ i. list_any (λ j. nat_eq_equiv.symm q j i) taken) ∙ (and_parts (is_member eqb range q) (had q) (sym (is_member-filter nat_eq_equiv had q (λ x e. ap had (eqb-true q x e)) range) ∙ has)).1 in
    let apart : AllPairs (λ j k. (j == k) ≡ false) range = λ i j d lt inside. let n' = length-range_with_len 2 n in
    ne_eqb _ _ (λ e. omega (arith, lt, inside, n', e, get_or-range_with_len 2 n i d (omega (arith, lt, inside, n')), get_or-range_with_len 2 n j d (omega (arith, inside, n')))) in
    let few = length-le_from_is_member nat_eq_equiv (filter had range) taken (IsDistinct-from_apart eqb (filter had range) (AllPairs-filter (λ j k. (j == k) ≡ false) had range apart)) there in
    omega (arith, few, length-filter_both had (λ k. not (had k)) (λ k. refl) range, length-range_with_len 2 n)

length-filled : (keys : List (Option ℕ)) (free : List ℕ) → length keys ≤ length free + length (taken_in keys) → length (fill_keys keys free) ≡ length keys
length-filled [] free le = refl
length-filled (Some k ∷ keys) free le = ap suc (length-filled keys free (omega (arith, le)))
length-filled (None ∷ keys) [] le = absurd (omega (arith, le, few_there keys)) where
  few_there : (keys : List (Option ℕ)) → length (taken_in keys) ≤ length keys
  few_there [] = omega arith
  few_there (Some k ∷ keys) = omega (arith, few_there keys)
  few_there (None ∷ keys) = omega (arith, few_there keys)
length-filled (None ∷ keys) (k ∷ free) le = ap suc (length-filled keys free (omega (arith, le)))

pub length-keys_of : (old : List Placed) (spots : List Spot) → length (keys_of old spots) ≡ length spots
length-keys_of old spots =
    let keys = old_keys old spots in
    let n : length keys ≡ length spots = length-map spots _ in
    let many = many_free (taken_in keys) (length spots) in
    length-filled keys (free_keys (taken_in keys) (length spots)) (omega (arith, many, n)) ∙ n

-- ---- objects

pub placed_parts : (spots : List Spot) (keys ms : List ℕ) → length keys ≡ length spots → length ms ≡ length spots
    → (map (λ o. o.spot) (placed_all spots keys ms) ≡ spots) × (map (λ o. o.key) (placed_all spots keys ms) ≡ keys) × (map (λ o. o.module_id) (placed_all spots keys ms) ≡ ms)
placed_parts [] [] [] ek em = (refl, refl, refl)
placed_parts [] [] (m ∷ ms) ek em = absurd (omega (arith, em))
placed_parts [] (k ∷ ks) ms ek em = absurd (omega (arith, ek))
placed_parts (s ∷ ss) [] ms ek em = absurd (omega (arith, ek))
placed_parts (s ∷ ss) (k ∷ ks) [] ek em = absurd (omega (arith, em))
placed_parts (s ∷ ss) (k ∷ ks) (m ∷ ms) ek em =
    let h = placed_parts ss ks ms (omega (arith, ek)) (omega (arith, em)) in (ap (λ xs. s ∷ xs) h.0, ap (λ xs. k ∷ xs) h.1, ap (λ xs. m ∷ xs) h.2)

pub placed_view : (t : Tree) (spots : List CodeSpot) (keys ms : List ℕ) → map (view_placed t) (placed_from spots keys ms) ≡ placed_all (map (view_spot t) spots) keys ms
placed_view t [] keys ms = refl
placed_view t (s ∷ ss) [] ms = refl
placed_view t (s ∷ ss) (k ∷ ks) [] = refl
placed_view t (s ∷ ss) (k ∷ ks) (m ∷ ms) = ap (λ xs. record { spot = view_spot t s; key = k; module_id = m } ∷ xs) (placed_view t ss ks ms)

pub placed_valid : (t : Tree) (spots : List CodeSpot) (keys ms : List ℕ) → All (IsSpotIn t) spots → All (λ o. IsSpotIn t o.spot) (placed_from spots keys ms)
placed_valid t [] keys ms all = λ k d lt. absurd (omega (arith, lt))
placed_valid t (s ∷ ss) [] ms all = λ k d lt. absurd (omega (arith, lt))
placed_valid t (s ∷ ss) (k ∷ ks) [] all = λ k d lt. absurd (omega (arith, lt))
placed_valid t (s ∷ ss) (k ∷ ks) (m ∷ ms) all = All-cons (λ o. IsSpotIn t o.spot) (record { spot = s; key = k; «module» = m }) (placed_from ss ks ms) (all 0 s (omega arith)) (placed_valid t ss ks ms (λ i d lt. all (suc i) d (omega (arith, lt))))

-- ---- limits

find_none : {A : Type 0} (p : A → Bool) (xs : List A) → find p xs ≡ None → All (λ x. p x ≡ false) xs
find_none p [] e = All-nil (λ x. p x ≡ false)
find_none p (x ∷ xs) e = elim (cases_Bool (p x)) [ inl h ↦ let bad = rw h at e in cc | inr h ↦ All-cons (λ x. p x ≡ false) x xs h (find_none p xs (rw h at e)) ]

pub record Within (t : Tree) : Type 0 where
  pub few : length (spots_of t) ≤ 8192
  pub folders : All (λ s. is_large_folder (spots_of t) s ≡ false) (spots_of t)
  pub total : sum (sizes_of t) ≤ 268435456
  pub modules : modules_needed (sizes_of t) ≤ GREATEST_ID

none_passed : (a b c : Bool) (f : Option Spot) (p q r : Passed) → or_else (over a p) (or_else (large_folder f) (or_else (over b q) (over c r))) ≡ None
    → (a ≡ false) × (f ≡ None) × (b ≡ false) × (c ≡ false)
none_passed false false false None p q r e = (refl, refl, refl, refl)
none_passed true b c f p q r e = cc
none_passed false b c (Some s) p q r e = cc
none_passed false true c None p q r e = cc
none_passed false false true None p q r e = cc

pub within_limits : (t : Tree) → limit_of t ≡ None → Within t
within_limits t e =
    let none = none_passed (nat_lt 8192 (length (spots_of t))) (nat_lt 268435456 (sum (sizes_of t))) (nat_lt GREATEST_ID (modules_needed (sizes_of t))) (find (is_large_folder (spots_of t)) (spots_of t)) _ _ _ e in
    record {
      few = ltb-false 8192 (length (spots_of t)) none.0;
      folders = find_none (is_large_folder (spots_of t)) (spots_of t) none.1;
      total = ltb-false 268435456 (sum (sizes_of t)) none.2;
      modules = ltb-false GREATEST_ID (modules_needed (sizes_of t)) none.3;
    }

pub folder_small : (spots : List Spot) (s : Spot) → s.content ≡ None → is_large_folder spots s ≡ false → size_of spots s ≤ 1048576
folder_small spots s e small = rw e (ltb-false 1048576 _ (rw e at small))

-- ---- modules

sizes_are : (old : List Placed) (t : Tree) → sizes_in (zip (sizes_of t) (old_modules old (spots_of t))) ≡ sizes_of t
sizes_are old t = firsts-zip (sizes_of t) (old_modules old (spots_of t)) (length-map (spots_of t) (λ s. module_of (placed_at old s)) ∙ sym (length-map (spots_of t) (size_of (spots_of t))))

module_known : (o : Option Placed) → ((x : Placed) → o ≡ Some x → IsId x.module_id) → (m : ℕ) → module_of o ≡ Some m → IsId m
module_known (Some x) known m e = subst IsId (same_Some x.module_id m e) (known x refl)
module_known None known m e = cc

pub are_objects : (old : List Placed) (t : Tree) → AreOld old → limit_of t ≡ None → AreObjects GREATEST_ID (zip (sizes_of t) (old_modules old (spots_of t)))
are_objects old t are limit =
    let Was : Option ℕ → Type 0 = λ o. (m : ℕ) → o ≡ Some m → IsId m in
    let objects = zip (sizes_of t) (old_modules old (spots_of t)) in
    let seconds = seconds-zip (sizes_of t) (old_modules old (spots_of t)) (length-map (spots_of t) (λ s. module_of (placed_at old s)) ∙ sym (length-map (spots_of t) (size_of (spots_of t)))) in
    record {
      some = omega arith;
      few = subst (λ sizes. modules_needed sizes ≤ GREATEST_ID) (sym (sizes_are old t)) (within_limits t limit).modules;
      first = are.gateway;
      old = all_unmap Was (λ (x : Sized). x.1) objects (subst (All Was) (sym seconds) (All-map Was (λ s. module_of (placed_at old s)) (spots_of t) (λ k d lt.
          let s = get_or (spots_of t) k d in module_known (placed_at old s) (λ x found. (found_is (λ o. IsId o.module_id) (λ o. is_same_spot o.spot s) old are.ids x found).0))));
    }

pub few_old : (t : Tree) (old : List Placed) → limit_of t ≡ None → length (old_keys old (spots_of t)) ≤ 8192
few_old t old limit = omega (arith, (within_limits t limit).few, length-map (spots_of t) (λ s. key_in (placed_at old s)))

-- where the objects stay or go is a placement
placement_for : KeptIsAPlacement → (old : List Placed) (t : Tree) → AreOld old → limit_of t ≡ None → IsPlacement GREATEST_ID (sizes_of t) (modules_for old t)
placement_for law old t are limit = subst (λ sizes. IsPlacement GREATEST_ID sizes (modules_for old t)) (sizes_are old t) (law GREATEST_ID (zip (sizes_of t) (old_modules old (spots_of t))) (are_objects old t are limit))

-- ---- the objects of a tree after others

-- each has its spot, its key and its module
pub after_parts : KeptIsAPlacement → (old : List Placed) (t : Tree) → AreOld old → limit_of t ≡ None → (map (λ o. o.spot) (objects_after old t) ≡ spots_of t) × (map (λ o. o.key) (objects_after old t) ≡ keys_of old (spots_of t)) × (map (λ o. o.module_id) (objects_after old t) ≡ modules_for old t)
after_parts law old t are limit = placed_parts (spots_of t) (keys_of old (spots_of t)) (modules_for old t) (length-keys_of old (spots_of t)) ((placement_for law old t are limit).each ∙ length-map (spots_of t) (size_of (spots_of t)))

pub placed_after : KeptIsAPlacement → (old : List Placed) (t : Tree) → IsTree t → limit_of t ≡ None → AreOld old → ArePlaced t (objects_after old t)
placed_after law old t tree limit are =
    let parts = after_parts law old t are limit in
    record { tree = tree; within = limit; spots = parts.0; placement = subst (IsPlacement GREATEST_ID (sizes_of t)) (sym parts.2) (placement_for law old t are limit) }

-- they are what the code makes of the tree's objects, which it sees in its own form
pub placed_is : (old : List Placed) (t : Tree) (w : Weighed) → IsWeighed t w → let had = old_keys old (map (view_spot t) w.spots.items) in
    map (view_placed t) (placed_from w.spots.items (fill_keys had (free_keys (taken_in had) (length had))) (kept_modules GREATEST_ID (zip w.sizes.items (old_modules old (map (view_spot t) w.spots.items)))))
    ≡ objects_after old t
placed_is old t w weighed =
    placed_view t w.spots.items _ _
    ∙ rw (weighed.spots.each, weighed.sizes) (ap (λ n. placed_all (spots_of t) (fill_keys (old_keys old (spots_of t)) (free_keys (taken_in (old_keys old (spots_of t))) n)) (modules_for old t))
    (length-map (spots_of t) (λ s. key_in (placed_at old s))))

-- what holds of all objects of a tree holds of those that are placed
pub each_spot : (P : Spot → Type 0) (t : Tree) (objects : List Placed) → ArePlaced t objects → All P (spots_of t) → All (λ o. P o.spot) objects
each_spot P t objects placed all = all_unmap P (λ o. o.spot) objects (subst (All P) (sym placed.spots) all)

pub each_id : (t : Tree) (objects : List Placed) → ArePlaced t objects → All (λ o. IsId o.module_id) objects
each_id t objects placed = all_unmap IsId (λ o. o.module_id) objects placed.placement.numbers

pub each_valid : (t : Tree) (objects : List Placed) → ArePlaced t objects → All (λ o. IsValidSpot o.spot) objects
each_valid t objects placed = each_spot IsValidSpot t objects placed (all_valid t placed.tree)

-- ---- what is written of them

abbrev pub entry_for : ℕ → Placed → Written
entry_for c o = record { name = o.spot.name; bound = bound_of o.spot.content; location = location_of c o }

-- what holds of a binding of each object that has a name holds of the bindings in each folder
pub each_entry : (P : Written → Type 0) (c : ℕ) (t : Tree) (objects : List Placed) → ArePlaced t objects
    → ((o : Placed) → IsName o.spot.name → IsId o.module_id → P (entry_for c o)) → (folder : ℕ) → All P (entries_of c objects folder)
each_entry P c t objects placed h folder = all_kept P (written_in c folder) objects (λ k d lt w e.
    let o = get_or objects k d in
    let is = cond_some (is_child folder o.spot) (entry_for c o) w e in
    let p = child_has folder o.spot is.0 in
    subst P is.1 (h o ((each_valid t objects placed k d lt).name p.0 p.1) (each_id t objects placed k d lt)))

pub are_entries : (c : ℕ) (t : Tree) (objects : List Placed) → ArePlaced t objects → (folder : ℕ) → All IsEntry (entries_of c objects folder)
are_entries c t objects placed = each_entry IsEntry c t objects placed (λ o name id. record { name = (name.at_least, name.at_most); key = refl; listed = id })

entry_sizes : (c folder : ℕ) (os : List Placed) → sum_by written_size (entries_of c os folder) ≡ sum_by (binding_size folder) (map (λ o. o.spot) os)
entry_sizes c folder [] = refl
entry_sizes c folder (o ∷ os) = grind (arith, common_steps, nat_tests, entry_sizes c folder os, option_cases o.spot.content)

-- the sizes of the objects are those of the tree
pub length-object_bytes : (c : ℕ) (t : Tree) (objects : List Placed) → ArePlaced t objects → (o : Placed) → length (object_bytes c objects o) ≡ size_of (spots_of t) o.spot
length-object_bytes c t objects placed o = elim (option_cases o.spot.content) [
  | inl h ↦ rw h.1 (omega arith)
  | inr h ↦ rw (h, ← placed.spots) (folder_length (folder_kind_of o.spot.path) (key_bytes o.key) (entries_of c objects o.spot.number) refl (are_entries c t objects placed o.spot.number)
      ∙ ap (λ n. 34 + n) (entry_sizes c o.spot.number objects))
]

pub lengths : (c : ℕ) (t : Tree) (objects : List Placed) → ArePlaced t objects → map (λ o. length (object_bytes c objects o)) objects ≡ sizes_of t
lengths c t objects placed =
    (λ i. map (λ o. length-object_bytes c t objects placed o i) objects) ∙ (sym (map-map (size_of (spots_of t)) (λ o. o.spot) objects) ∙ ap (map (size_of (spots_of t))) placed.spots)

pub small_folders : (c : ℕ) (t : Tree) (objects : List Placed) → ArePlaced t objects → All (λ o. o.spot.content ≡ None → length (object_bytes c objects o) ≤ 1048576) objects
small_folders c t objects placed = λ i d lt none.
    let fits = each_spot (λ s. is_large_folder (spots_of t) s ≡ false) t objects placed (within_limits t placed.within).folders i d lt in
    rw (length-object_bytes c t objects placed (get_or objects i d)) (folder_small (spots_of t) (get_or objects i d).spot none fits)

-- the gateway is the first object
pub record HasGateway (objects : List Placed) : Type 0 where
  pub gateway : Placed
  pub rest : List Placed
  pub first : objects ≡ gateway ∷ rest
  pub spot : gateway.spot ≡ gateway_spot
  pub found : placed_at objects gateway_spot ≡ Some gateway

pub the_gateway : (t : Tree) (objects : List Placed) → map (λ o. o.spot) objects ≡ spots_of t → HasGateway objects
the_gateway t [] e = cc
the_gateway t (o ∷ os) e =
    let is : o.spot ≡ gateway_spot = ap (λ ss. get_or ss 0 gateway_spot) e in
    let test : is_same_spot o.spot gateway_spot ≡ true = subst (λ s. is_same_spot s gateway_spot ≡ true) (sym is) refl in
    record { gateway = o; rest = os; first = refl; spot = is; found = rw test refl }

pub first_one : (objects : List Placed) (h : HasGateway objects) (f : Placed → ℕ) → slice_get (map f objects) 0 ≡ Some 1 → f h.gateway ≡ 1
first_one objects h f e = same_Some (f h.gateway) 1 (ap (λ os. slice_get (map f os) 0) (sym h.first) ∙ e)

-- so others can be placed after them
pub old_placed : (t : Tree) (objects : List Placed) → ArePlaced t objects → AreOld objects
old_placed t objects placed =
    let h = the_gateway t objects placed.spots in
    record {
      rising = subst AreRising (sym placed.spots) (rising_all t placed.tree);
      ids = each_id t objects placed;
      gateway = λ m e. same_Some m 1 (sym e ∙ (ap module_of h.found ∙ ap Some (first_one objects h (λ o. o.module_id) placed.placement.first)));
    }

-- ---- as the code has them

pub modules_seen : (t : Tree) (objects : List CodePlaced) → map (λ o. o.«module») objects ≡ map (λ o. o.module_id) (map (view_placed t) objects)
modules_seen t objects = sym (map-map (λ o. o.module_id) (view_placed t) objects)

pub folders_small : (c : ℕ) (t : Tree) (os : List CodePlaced) → ArePlaced t (map (view_placed t) os) → All (λ o. o.spot.whole ≡ false → length (object_bytes c (map (view_placed t) os) (view_placed t o)) ≤ MOST_FOLDER_SIZE) os
folders_small c t os placed = λ k d lt whole.
    let objects = map (view_placed t) os in
    all_unmap (λ (q : Placed). q.spot.content ≡ None → length (object_bytes c objects q) ≤ MOST_FOLDER_SIZE) (view_placed t) os (small_folders c t objects placed) k d lt (rw whole refl)
