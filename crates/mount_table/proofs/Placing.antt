-- The places of PIDs: one mount after another, and of mounts that were put in order.
use Rattle.std.proofs.Common.{ℕ, zero, suc, ◌≡◌, ◌≢◌, ◌+◌, ◌<◌, ◌≤◌, ◌⊎◌, List, [], ◌∷◌, ◌++◌, length, get_or, map, take, replicate, Option, Some, None, inl, inr, refl, sym, ap, subst, ◌∙◌, arith}
use Rattle.std.specs.List.{AllPairs, IsDistinct, slice_get}
use Rattle.std.proofs.Math.Dec.{eqb}
use Rattle.std.proofs.Math.ListN.{set}
use Rattle.std.proofs.lemmas.Bool.{cases_eq, eqb-false, ne_eqb}
use Rattle.std.proofs.lemmas.List.{get_or-map, get_or-replicate, get_or-set_same, get_or-take, length-map, length-replicate, length-set, length-take, map-append, take_more}
use Rattle.std.proofs.lemmas.List.Sorted.{All-permutation, IsPermutation-map, length_permutation}
use Rattle.std.proofs.lemmas.Map.Keys.{IsDistinct-IsPermutation, IsDistinct-from_apart, apart_from_distinct}
use Rattle.std.proofs.lemmas.Option.{none-some, same_Some, slice_get-get_or, slice_get_within}
use Rattle.carousel_profile.specs.declared.TheConstants.{MOST_PID}
use Rattle.mount_table.specs.declared.mount.Mount.{Mount}
use Rattle.mount_table.specs.declared.mount.TheConstants.{MOST_MOUNTS}
use Rattle.mount_table.specs.Laws.{IsSound}
use Rattle.mount_table.specs.Mounts.{refusal_of, IsTableOf}
use Rattle.mount_table.specs.Inner.Places.{pids_of, AreApart, IsPlaceOf, ArePlaces}
use Rattle.mount_table.proofs.Deciding.{sound_is_accepted}

-- ---- an element by its place

set_here : {A : Type 0} (xs : List A) (i : ℕ) (x : A) → i < length xs → slice_get (set xs i x) i ≡ Some x
set_here {A} xs i x lt =
    let within : i < length (set xs i x) = omega (arith, lt, length-set xs i x) in
    slice_get-get_or (set xs i x) i x within ∙ ap (λ (y : A). Some y) (get_or-set_same xs i x x lt)

set_elsewhere : {A : Type 0} (xs : List A) (i j : ℕ) (x : A) → (j ≡ i → ⊥) → slice_get (set xs i x) j ≡ slice_get xs j
set_elsewhere [] i j x ne = refl
set_elsewhere (y ∷ ys) zero zero x ne = absurd (ne refl)
set_elsewhere (y ∷ ys) zero (suc j) x ne = refl
set_elsewhere (y ∷ ys) (suc i) zero x ne = refl
set_elsewhere (y ∷ ys) (suc i) (suc j) x ne = set_elsewhere ys i j x (λ e. ne (ap (λ (n : ℕ). suc n) e))

before_end : {A : Type 0} (xs : List A) (y : A) (i : ℕ) → i < length xs → slice_get (xs ++ y ∷ []) i ≡ slice_get xs i
before_end [] y i lt = absurd (omega arith)
before_end (x ∷ xs) y zero lt = refl
before_end (x ∷ xs) y (suc i) lt = before_end xs y i (omega arith)

at_end : {A : Type 0} (xs : List A) (y : A) → slice_get (xs ++ y ∷ []) (length xs) ≡ Some y
at_end [] y = refl
at_end (x ∷ xs) y = at_end xs y

-- what stands in a list with one more stood there before, or is the last
of_one_more : {A : Type 0} (xs : List A) (y z : A) (i : ℕ) → slice_get (xs ++ y ∷ []) i ≡ Some z → (slice_get xs i ≡ Some z) ⊎ ((i ≡ length xs) × (y ≡ z))
of_one_more [] y z zero e = inr (refl, same_Some y z e)
of_one_more [] y z (suc i) e = absurd (none-some z e)
of_one_more (x ∷ xs) y z zero e = inl e
of_one_more (x ∷ xs) y z (suc i) e = go (of_one_more xs y z i e) where
  go : (slice_get xs i ≡ Some z) ⊎ ((i ≡ length xs) × (y ≡ z)) → (slice_get xs i ≡ Some z) ⊎ ((suc i ≡ length (x ∷ xs)) × (y ≡ z))
  go (inl f) = inl f
  go (inr f) = inr (ap (λ (n : ℕ). suc n) f.0, f.1)

-- ---- one PID after another

-- what is so of nothing but `None`
pub only_none : (P : Option ℕ → Type 0) → ((n : ℕ) → P (Some n) → ⊥) → (y : Option ℕ) → P y → y ≡ None
only_none P never None p = refl
only_none P never (Some n) p = absurd (never n p)

pub none_placed : (places : List (Option ℕ)) → places ≡ replicate 8192 None → ArePlaces [] places
none_placed places e = record {
  all = ap (λ (ps : List (Option ℕ)). length ps) e ∙ length-replicate {A = Option ℕ} 8192 None;
  each = λ pid place f.
      let g : slice_get (replicate 8192 None) pid ≡ Some place = subst (λ (ps : List (Option ℕ)). slice_get ps pid ≡ Some place) e f in
      let within : pid < 8192 = omega (arith, slice_get_within (replicate 8192 None) pid place g, length-replicate {A = Option ℕ} 8192 None) in
      let none : None ≡ place =
      sym (get_or-replicate 8192 pid None place within) ∙ same_Some (get_or (replicate 8192 None) pid place) place (sym (slice_get-get_or (replicate 8192 None) pid place (slice_get_within (replicate 8192 None) pid place g)) ∙ g) in
      λ i. (λ h. absurd (none-some i (none ∙ h)), λ h. absurd (none-some pid h));
}

-- the place of the PID that was put there last
its_place : (pids : List ℕ) (pid : ℕ) (place : Option ℕ) → ((k : ℕ) → slice_get pids k ≡ Some pid → ⊥) → Some (length pids) ≡ place → IsPlaceOf pid (pids ++ pid ∷ []) place
its_place pids pid place absent e i = (there, back) where
  there : place ≡ Some i → slice_get (pids ++ pid ∷ []) i ≡ Some pid
  there f = subst (λ (k : ℕ). slice_get (pids ++ pid ∷ []) k ≡ Some pid) (same_Some (length pids) i (e ∙ f)) (at_end pids pid)

  back : slice_get (pids ++ pid ∷ []) i ≡ Some pid → place ≡ Some i
  back f = go (of_one_more pids pid pid i f) where
    go : (slice_get pids i ≡ Some pid) ⊎ ((i ≡ length pids) × (pid ≡ pid)) → place ≡ Some i
    go (inl g) = absurd (absent i g)
    go (inr g) = sym e ∙ ap (λ (k : ℕ). Some k) (sym g.0)

-- any other PID has the place that it had
same_place : (pids : List ℕ) (pid q : ℕ) (place : Option ℕ) → (q ≡ pid → ⊥) → IsPlaceOf q pids place → IsPlaceOf q (pids ++ pid ∷ []) place
same_place pids pid q place other h i = (there, back) where
  there : place ≡ Some i → slice_get (pids ++ pid ∷ []) i ≡ Some q
  there f = let g = (h i).0 f in before_end pids pid i (slice_get_within pids i q g) ∙ g

  back : slice_get (pids ++ pid ∷ []) i ≡ Some q → place ≡ Some i
  back f = go (of_one_more pids pid q i f) where
    go : (slice_get pids i ≡ Some q) ⊎ ((i ≡ length pids) × (pid ≡ q)) → place ≡ Some i
    go (inl g) = (h i).1 g
    go (inr g) = absurd (other (sym g.1))

place_with : (pids : List ℕ) (pid : ℕ) (places : List (Option ℕ)) → pid < 8192 → ((k : ℕ) → slice_get pids k ≡ Some pid → ⊥) → ArePlaces pids places
    → (q : ℕ) (place : Option ℕ) → slice_get (set places pid (Some (length pids))) q ≡ Some place → IsPlaceOf q (pids ++ pid ∷ []) place
place_with pids pid places low absent h q place e = go (cases_eq q pid) where
  now : List (Option ℕ)
  now = set places pid (Some (length pids))

  go : (q ≡ pid) ⊎ (q ≡ pid → ⊥) → IsPlaceOf q (pids ++ pid ∷ []) place
  go (inl same) =
      let within : pid < length places = omega (arith, low, h.all) in
      let here : Some (Some (length pids)) ≡ Some place = sym (set_here places pid (Some (length pids)) within) ∙ subst (λ (n : ℕ). slice_get now n ≡ Some place) same e in
      subst (λ (n : ℕ). IsPlaceOf n (pids ++ pid ∷ []) place) (sym same) (its_place pids pid place absent (same_Some (Some (length pids)) place here))
  go (inr other) = same_place pids pid q place other (h.each q place (sym (set_elsewhere places pid q (Some (length pids)) other) ∙ e))

placed_more : (pids : List ℕ) (pid : ℕ) (places : List (Option ℕ)) → pid < 8192 → ((k : ℕ) → slice_get pids k ≡ Some pid → ⊥)
    → ArePlaces pids places → ArePlaces (pids ++ pid ∷ []) (set places pid (Some (length pids)))
placed_more pids pid places low absent h = record { all = length-set places pid (Some (length pids)) ∙ h.all; each = place_with pids pid places low absent h }

-- ---- one mount after another

abbrev pub pid_in : Mount → ℕ
pid_in m = m.pid

-- no mount before this one is on its PID
absent_before : (mounts : List Mount) (i : ℕ) (d : Mount) → i < length mounts → AreApart mounts → (k : ℕ) → slice_get (pids_of (take i mounts)) k ≡ Some (get_or mounts i d).pid → ⊥
absent_before mounts i d lt h k e =
    let size = length-take i mounts in
    let mapped = length-map (take i mounts) pid_in in
    let there : k < length (take i mounts) = omega (arith, slice_get_within (pids_of (take i mounts)) k (get_or mounts i d).pid e, mapped) in
    let before : k < i = omega (arith, there, size) in
    let within : k < length (pids_of (take i mounts)) = omega (arith, there, mapped) in
    let same : (get_or mounts k d).pid ≡ (get_or mounts i d).pid =
    ap pid_in (sym (get_or-take i mounts k d before)) ∙ sym (get_or-map pid_in (take i mounts) k d d.pid there)
    ∙ same_Some (get_or (pids_of (take i mounts)) k d.pid) (get_or mounts i d).pid (sym (slice_get-get_or (pids_of (take i mounts)) k d.pid within) ∙ e) in
    h.apart k i d before lt same

-- the mounts before the one at i have their places, and so have those before the next
pub placed_one : (mounts : List Mount) (i : ℕ) (d : Mount) (places : List (Option ℕ)) → i < length mounts → AreApart mounts
    → ArePlaces (pids_of (take i mounts)) places → ArePlaces (pids_of (take (i + 1) mounts)) (set places (get_or mounts i d).pid (Some i))
placed_one mounts i d places lt h before =
    let pids = pids_of (take i mounts) in
    let pid = (get_or mounts i d).pid in
    let size = length-take i mounts in
    let low = h.low i d lt in
    let count : length pids ≡ i = omega (arith, length-map (take i mounts) pid_in, size, lt) in
    let more : pids_of (take (i + 1) mounts) ≡ pids ++ pid ∷ [] = ap (λ (ms : List Mount). map pid_in ms) (take_more mounts i d lt) ∙ map-append pid_in (take i mounts) (get_or mounts i d ∷ []) in
    let all = placed_more pids pid places (omega (arith, low)) (absent_before mounts i d lt h) before in
    subst (λ (ps : List ℕ). ArePlaces ps (set places pid (Some i))) (sym more) (subst (λ (n : ℕ). ArePlaces (pids ++ pid ∷ []) (set places pid (Some n))) count all)

-- ---- of a table

flips : (x y : ℕ) → eqb x y ≡ eqb y x
flips x y = go (cases_eq x y) where
  go : (x ≡ y) ⊎ (x ≡ y → ⊥) → eqb x y ≡ eqb y x
  go (inl e) = ap (λ (z : ℕ). eqb z y) e ∙ ap (λ (z : ℕ). eqb y z) (sym e)
  go (inr ne) = ne_eqb x y ne ∙ sym (ne_eqb y x (λ e. ne (sym e)))

pid_at : (mounts : List Mount) (i : ℕ) (d : Mount) (n : ℕ) → i < length (pids_of mounts) → get_or (pids_of mounts) i n ≡ (get_or mounts i d).pid
pid_at mounts i d n lt = get_or-map pid_in mounts i d n (omega (arith, lt, length-map mounts pid_in))

distinct : (mounts : List Mount) → AllPairs (λ m n. m.pid ≢ n.pid) mounts → IsDistinct eqb (pids_of mounts)
distinct [] h = IsDistinct-from_apart eqb [] (λ i j d before within. absurd (omega arith))
distinct (m ∷ ms) h = IsDistinct-from_apart eqb (pids_of (m ∷ ms)) (λ i j d before within.
    let all : List Mount = m ∷ ms in
    let mapped = length-map all pid_in in
    let lt : i < length (pids_of all) = omega arith in
    let ne = h i j m before (omega (arith, within, mapped)) in
    ne_eqb (get_or (pids_of all) i d) (get_or (pids_of all) j d) (λ e. ne (sym (pid_at all i m d lt) ∙ e ∙ pid_at all j m d within)))

pairs_apart : (mounts : List Mount) → IsDistinct eqb (pids_of mounts) → AllPairs (λ m n. m.pid ≢ n.pid) mounts
pairs_apart mounts h i j d before within e =
    let mapped = length-map mounts pid_in in
    let there : j < length (pids_of mounts) = omega (arith, within, mapped) in
    let here : i < length (pids_of mounts) = omega arith in
    eqb-false (get_or (pids_of mounts) i d.pid) (get_or (pids_of mounts) j d.pid) (apart_from_distinct eqb (pids_of mounts) i j d.pid h before there)
    (pid_at mounts i d d.pid here ∙ e ∙ sym (pid_at mounts j d d.pid there))

-- the mounts of a table that isn't refused are apart
pub table_apart : (list table : List Mount) → refusal_of list ≡ None → IsTableOf list table → AreApart table
table_apart list table accepted t =
    let sound : IsSound list = (sound_is_accepted list).0 accepted in
    let size = length_permutation list table t.moved in
    record {
      few = subst (λ (n : ℕ). n ≤ MOST_MOUNTS) (sym size) sound.few;
      low = All-permutation (λ m. m.pid ≤ MOST_PID) list table t.moved sound.pids;
      apart = pairs_apart table (IsDistinct-IsPermutation eqb flips (pids_of list) (pids_of table) (IsPermutation-map pid_in list table t.moved)
          (distinct list (λ i j d before within. (sound.apart i j d before within).1)));
    }
