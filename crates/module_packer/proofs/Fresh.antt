-- What a fresh placement has.
use Rattle.std.proofs.Common.{◌≡◌, ◌≢◌, ℕ, zero, suc, ◌+◌, ◌<◌, ◌≤◌, max, Bool, true, false, cond, List, [], ◌∷◌, ◌++◌, length, Option, Some, None, MatchOption, slice_get, refl, ap, sym, ◌∙◌, subst, arith, get_or, eqb, ltb, drop, zero-add, ◌⊎◌, inl, inr}
use Rattle.std.specs.Bool.{⊤}
use Rattle.std.specs.List.{All, fold, count_by, zip}
use Rattle.std.proofs.lemmas.List.{drop_more, drop_all, append_assoc, append-nil}
use Rattle.std.proofs.lemmas.List.Sums.{sum_by-cons, fold-append}
use Rattle.std.proofs.lemmas.List.Elements.{All-nil, All-cons}
use Rattle.std.proofs.lemmas.Bool.{cases_eq, eq-eqb, ne_eqb, ltb-true, ltb-false, leb-true}
use Rattle.module_packer.specs.declared.packing.Shared.{Shared}
use Rattle.module_packer.specs.declared.packing.Packing.{Packing}
use Rattle.module_packer.specs.declared.packing.TheConstants.{ROOM}
use Rattle.module_packer.specs.Placement.{none_opened, place_next, fits_shared, shared_number, shared_sum, fresh_from, fresh, modules_needed, sum_in, FreshIsAPlacement}
use Rattle.module_packer.specs.Inner.Placement.{IsSound}

-- ---- one object more: the three ways that it may go

pub data Way : Type 0 where
  Alone : Way
  Joins : Way
  Opens : Way

way : Packing → ℕ → Way
way s size = cond (ltb ROOM size) Alone (cond (fits_shared s.shared size) Joins Opens)

by_way : Packing → ℕ → Way → ℕ × Packing
by_way s size Alone = (s.count + 1, record s { count = s.count + 1 })
by_way s size Joins = (shared_number s.shared, record s { shared = Some (record { number = shared_number s.shared; sum = shared_sum s.shared + size }) })
by_way s size Opens = (s.count + 1, record { count = s.count + 1; shared = Some (record { number = s.count + 1; sum = size }) })

-- what the way says of the object
abbrev IsWay : Packing → ℕ → Way → Type 0
IsWay s size Alone = ROOM < size
IsWay s size Joins = (shared_sum s.shared + size ≤ ROOM) × (1 ≤ shared_number s.shared)
IsWay s size Opens = size ≤ ROOM

shared_parts : (o : Option Shared) (count : ℕ) → MatchOption o ⊤ (λ x. (1 ≤ x.number) × (x.number ≤ count) × (x.sum ≤ ROOM)) → (shared_number o ≤ count) × (shared_sum o ≤ ROOM)
shared_parts None count h = (omega arith, omega arith)
shared_parts (Some x) count h = (h.1, h.2)

sound_parts : (s : Packing) → IsSound s → (shared_number s.shared ≤ s.count) × (shared_sum s.shared ≤ ROOM)
sound_parts s sound = shared_parts s.shared s.count sound

joining : (o : Option Shared) (count size : ℕ) → MatchOption o ⊤ (λ x. (1 ≤ x.number) × (x.number ≤ count) × (x.sum ≤ ROOM)) → fits_shared o size ≡ true
    → (shared_sum o + size ≤ ROOM) × (1 ≤ shared_number o)
joining None count size h f = cc
joining (Some x) count size h f = (leb-true (x.sum + size) ROOM f, h.0)

is_way : (s : Packing) (size : ℕ) → IsSound s → IsWay s size (way s size) × (place_next s size ≡ by_way s size (way s size))
unfolding way by_way
is_way s size sound = by_size (ltb ROOM size) refl (fits_shared s.shared size) refl where
  by_size : (large : Bool) → ltb ROOM size ≡ large → (fitting : Bool) → fits_shared s.shared size ≡ fitting
      → IsWay s size (cond large Alone (cond fitting Joins Opens))
      × (cond large (s.count + 1, record s { count = s.count + 1 }) (cond fitting (by_way s size Joins) (by_way s size Opens)) ≡ by_way s size (cond large Alone (cond fitting Joins Opens)))
  by_size true e fitting f = (ltb-true ROOM size e, refl)
  by_size false e true f = (joining s.shared s.count size sound f, refl)
  by_size false e false f = (ltb-false ROOM size e, refl)

sound_on : (o : Option Shared) (c d : ℕ) → c ≤ d → MatchOption o ⊤ (λ x. (1 ≤ x.number) × (x.number ≤ c) × (x.sum ≤ ROOM)) → MatchOption o ⊤ (λ x. (1 ≤ x.number) × (x.number ≤ d) × (x.sum ≤ ROOM))
sound_on None c d h s = s
sound_on (Some x) c d h s = (s.0, omega (arith, s.1), s.2)

sound_after : (s : Packing) (size : ℕ) (w : Way) → IsSound s → IsWay s size w → IsSound (by_way s size w).1
unfolding by_way
sound_after s size Alone sound h = sound_on s.shared s.count (s.count + 1) (omega arith) sound
sound_after s size Joins sound h = (h.1, (sound_parts s sound).0, h.0)
sound_after s size Opens sound h = (omega arith, omega arith, h)

-- ---- how many objects are still to come into a module, and how many bytes with them

record Holds (count shared sum m n t : ℕ) : Type 0 where
  in_shared : m ≡ shared → sum + t ≤ ROOM
  in_closed : m ≤ count → m ≢ shared → (n ≡ 0) × (t ≡ 0)
  in_later : count < m → 2 ≤ n → t ≤ ROOM

here : (count shared sum x m size n t : ℕ) → x ≡ m → Holds count shared sum m (1 + n) (size + t) → Holds count shared sum m (cond (eqb x m) 1 0 + n) (cond (eqb x m) size 0 + t)
here count shared sum x m size n t e h = rw (eq-eqb x m e) h

elsewhere : (count shared sum x m size n t : ℕ) → x ≢ m → Holds count shared sum m n t → Holds count shared sum m (cond (eqb x m) 1 0 + n) (cond (eqb x m) size 0 + t)
elsewhere count shared sum x m size n t e h = rw (ne_eqb x m e, zero-add n, zero-add t) h

alone : (count shared sum m size n t : ℕ) → shared ≤ count → Holds (count + 1) shared sum m n t → Holds count shared sum m (cond (eqb (count + 1) m) 1 0 + n) (cond (eqb (count + 1) m) size 0 + t)
alone count shared sum m size n t l h = by_place (cases_eq (count + 1) m) where
  by_place : (count + 1 ≡ m) ⊎ (count + 1 ≡ m → ⊥) → Holds count shared sum m (cond (eqb (count + 1) m) 1 0 + n) (cond (eqb (count + 1) m) size 0 + t)
  by_place (inl same) =
      let none : (n ≡ 0) × (t ≡ 0) = h.in_closed (omega arith) (omega arith) in
      here count shared sum (count + 1) m size n t same (record { in_shared = λ e. absurd (omega arith); in_closed = λ a b. absurd (omega arith); in_later = λ a b. absurd (omega (arith, none.0)) })
  by_place (inr other) =
      elsewhere count shared sum (count + 1) m size n t other (record { in_shared = λ e. h.in_shared e; in_closed = λ a b. h.in_closed (omega arith) b; in_later = λ a b. h.in_later (omega arith) b })

joins : (count shared sum m size n t : ℕ) → shared ≤ count → Holds count shared (sum + size) m n t → Holds count shared sum m (cond (eqb shared m) 1 0 + n) (cond (eqb shared m) size 0 + t)
joins count shared sum m size n t l h = by_place (cases_eq shared m) where
  by_place : (shared ≡ m) ⊎ (shared ≡ m → ⊥) → Holds count shared sum m (cond (eqb shared m) 1 0 + n) (cond (eqb shared m) size 0 + t)
  by_place (inl same) =
      let all : sum + size + t ≤ ROOM = h.in_shared (sym same) in
      here count shared sum shared m size n t same (record { in_shared = λ e. omega arith; in_closed = λ a b. absurd (b (sym same)); in_later = λ a b. absurd (omega arith) })
  by_place (inr other) =
      elsewhere count shared sum shared m size n t other (record { in_shared = λ e. absurd (other (sym e)); in_closed = λ a b. h.in_closed a b; in_later = λ a b. h.in_later a b })

opens : (count shared sum m size n t : ℕ) → shared ≤ count → sum ≤ ROOM → size ≤ ROOM → Holds (count + 1) (count + 1) size m n t → Holds count shared sum m (cond (eqb (count + 1) m) 1 0 + n) (cond (eqb (count + 1) m) size 0 + t)
opens count shared sum m size n t l r q h = by_place (cases_eq (count + 1) m) where
  closed : m ≤ count → (n ≡ 0) × (t ≡ 0)
  closed a = h.in_closed (omega arith) (omega arith)

  by_place : (count + 1 ≡ m) ⊎ (count + 1 ≡ m → ⊥) → Holds count shared sum m (cond (eqb (count + 1) m) 1 0 + n) (cond (eqb (count + 1) m) size 0 + t)
  by_place (inl same) =
      let all : size + t ≤ ROOM = h.in_shared (sym same) in
      here count shared sum (count + 1) m size n t same (record { in_shared = λ e. absurd (omega arith); in_closed = λ a b. absurd (omega arith); in_later = λ a b. all })
  by_place (inr other) =
      elsewhere count shared sum (count + 1) m size n t other (record { in_shared = λ e. omega (arith, (closed (omega arith)).1); in_closed = λ a b. closed a; in_later = λ a b. h.in_later (omega arith) b })

abbrev Held : Packing → List ℕ → List ℕ → ℕ → Type 0
Held s modules sizes m = Holds s.count (shared_number s.shared) (shared_sum s.shared) m (count_by (λ n. eqb n m) modules) (sum_in (zip modules sizes) m)

count_cons : (x m : ℕ) (xs : List ℕ) → count_by (λ n. eqb n m) (x ∷ xs) ≡ cond (eqb x m) 1 0 + count_by (λ n. eqb n m) xs
count_cons x m xs = sum_by-cons (λ (n : ℕ). cond (eqb n m) 1 0) x xs

sum_cons : (x size m : ℕ) (xs sizes : List ℕ) → sum_in (zip (x ∷ xs) (size ∷ sizes)) m ≡ cond (eqb x m) size 0 + sum_in (zip xs sizes) m
sum_cons x size m xs sizes = sum_by-cons (λ (e : ℕ × ℕ). cond (eqb e.0 m) e.1 0) (x, size) (zip xs sizes)

held_cons : (s : Packing) (x size m : ℕ) (xs sizes : List ℕ)
    → Holds s.count (shared_number s.shared) (shared_sum s.shared) m (cond (eqb x m) 1 0 + count_by (λ n. eqb n m) xs) (cond (eqb x m) size 0 + sum_in (zip xs sizes) m)
    → Held s (x ∷ xs) (size ∷ sizes) m
held_cons s x size m xs sizes h = rw (count_cons x m xs, sum_cons x size m xs sizes) h

next : (s : Packing) (size m : ℕ) (sizes : List ℕ) (w : Way) → IsSound s → IsWay s size w
    → Held (by_way s size w).1 (fresh_from (by_way s size w).1 sizes) sizes m
    → Held s ((by_way s size w).0 ∷ fresh_from (by_way s size w).1 sizes) (size ∷ sizes) m
unfolding by_way
next s size m sizes Alone sound h later = held_cons s _ size m _ sizes (alone s.count (shared_number s.shared) (shared_sum s.shared) m size _ _ (sound_parts s sound).0 later)
next s size m sizes Joins sound h later = held_cons s _ size m _ sizes (joins s.count (shared_number s.shared) (shared_sum s.shared) m size _ _ (sound_parts s sound).0 later)
next s size m sizes Opens sound h later = held_cons s _ size m _ sizes (opens s.count (shared_number s.shared) (shared_sum s.shared) m size _ _ (sound_parts s sound).0 (sound_parts s sound).1 h later)

held : (sizes : List ℕ) (s : Packing) (m : ℕ) → IsSound s → Held s (fresh_from s sizes) sizes m
held [] s m sound = record { in_shared = λ e. omega (arith, (sound_parts s sound).1); in_closed = λ a b. (refl, refl); in_later = λ a b. absurd (omega arith) }
held (size ∷ sizes) s m sound =
    let w = is_way s size sound in
    let P : ℕ × Packing → Type 0 = λ p. Held s (p.0 ∷ fresh_from p.1 sizes) (size ∷ sizes) m in
    subst P (sym w.1) (next s size m sizes (way s size) sound w.0 (held sizes (by_way s size (way s size)).1 m (sound_after s size (way s size) sound w.0)))

-- ---- the other parts

length_fresh : (sizes : List ℕ) (s : Packing) → length (fresh_from s sizes) ≡ length sizes
length_fresh [] s = refl
length_fresh (size ∷ sizes) s = ap suc (length_fresh sizes (place_next s size).1)

pub sound_next : (s : Packing) (size : ℕ) → IsSound s → IsSound (place_next s size).1
sound_next s size sound =
    let w = is_way s size sound in
    let P : ℕ × Packing → Type 0 = λ p. IsSound p.1 in
    subst P (sym w.1) (sound_after s size (way s size) sound w.0)

number_by_way : (s : Packing) (size : ℕ) (w : Way) → IsSound s → IsWay s size w → (1 ≤ (by_way s size w).0) × (max s.count (by_way s size w).0 ≡ (by_way s size w).1.count)
unfolding by_way
number_by_way s size Alone sound h = (omega arith, omega arith)
number_by_way s size Joins sound h = (h.1, omega (arith, (sound_parts s sound).0))
number_by_way s size Opens sound h = (omega arith, omega arith)

number_next : (s : Packing) (size : ℕ) → IsSound s → (1 ≤ (place_next s size).0) × (max s.count (place_next s size).0 ≡ (place_next s size).1.count)
number_next s size sound =
    let w = is_way s size sound in
    let P : ℕ × Packing → Type 0 = λ p. (1 ≤ p.0) × (max s.count p.0 ≡ p.1.count) in
    subst P (sym w.1) (number_by_way s size (way s size) sound w.0)

numbers_from_one : (sizes : List ℕ) (s : Packing) → IsSound s → All (λ m. 1 ≤ m) (fresh_from s sizes)
numbers_from_one [] s sound = All-nil (λ m. 1 ≤ m)
numbers_from_one (size ∷ sizes) s sound =
    All-cons (λ m. 1 ≤ m) (place_next s size).0 (fresh_from (place_next s size).1 sizes) (number_next s size sound).0 (numbers_from_one sizes (place_next s size).1 (sound_next s size sound))

greatest_from : (xs : List ℕ) (a : ℕ) → a ≤ fold max a xs
greatest_from [] a = omega arith
greatest_from (x ∷ xs) a = omega (arith, greatest_from xs (max a x))

numbers_within : (xs : List ℕ) (a : ℕ) → All (λ m. m ≤ fold max a xs) xs
numbers_within [] a = All-nil (λ m. m ≤ a)
numbers_within (x ∷ xs) a = All-cons (λ m. m ≤ fold max (max a x) xs) x xs (omega (arith, greatest_from xs (max a x))) (numbers_within xs (max a x))

first_number : (size : ℕ) → (place_next none_opened size).0 ≡ 1
first_number size = by_size (ltb ROOM size) refl where
  by_size : (large : Bool) → ltb ROOM size ≡ large → (place_next none_opened size).0 ≡ 1
  by_size true e = rw e refl
  by_size false e = rw e refl

first_is_one : (sizes : List ℕ) → 0 < length sizes → slice_get (fresh sizes) 0 ≡ Some 1
first_is_one [] h = absurd (omega arith)
first_is_one (size ∷ sizes) h = ap (λ (n : ℕ). Some n) (first_number size)

sums_within : (sizes : List ℕ) (m : ℕ) → 1 < count_by (λ n. eqb n m) (fresh sizes) → sum_in (zip (fresh sizes) sizes) m ≤ ROOM
sums_within sizes zero n = omega (arith, (held sizes none_opened 0 tt).in_shared refl)
sums_within sizes (suc m) n = (held sizes none_opened (suc m) tt).in_later (omega arith) n

pub fresh_is : FreshIsAPlacement
fresh_is limit sizes some few =
    let P : ℕ → Type 0 = λ m. (1 ≤ m) × (m ≤ limit) in
    record {
      each = length_fresh sizes none_opened;
      numbers = λ k d h. (numbers_from_one sizes none_opened tt k d h, omega (arith, numbers_within (fresh sizes) 0 k d h));
      first = first_is_one sizes some;
      sums = λ m n. sums_within sizes m n;
    }

-- ---- a loop over the sizes

pub record IsUnderway (s : Packing) (sizes : List ℕ) (i : ℕ) : Type 0 where
  pub sound : IsSound s
  pub few : s.count ≤ i
  pub rest : fold max s.count (fresh_from s (drop i sizes)) ≡ modules_needed sizes

pub underway_first : (sizes : List ℕ) (s : Packing) → s ≡ none_opened → IsUnderway s sizes 0
underway_first sizes s e = rw e (record { sound = tt; few = omega arith; rest = refl })

pub underway_next : (s v : Packing) (sizes : List ℕ) (i : ℕ) → i < length sizes → v ≡ (place_next s (get_or sizes i 0)).1 → v.count ≤ s.count + 1 → IsUnderway s sizes i → IsUnderway v sizes (i + 1)
underway_next s v sizes i h e f u =
    let now : fold max (max s.count (place_next s (get_or sizes i 0)).0) (fresh_from (place_next s (get_or sizes i 0)).1 (drop (i + 1) sizes)) ≡ modules_needed sizes =
    sym (ap (λ (xs : List ℕ). fold max s.count (fresh_from s xs)) (drop_more sizes i 0 h)) ∙ u.rest in
    let counted : fold max (place_next s (get_or sizes i 0)).1.count (fresh_from (place_next s (get_or sizes i 0)).1 (drop (i + 1) sizes)) ≡ modules_needed sizes =
    ap (λ (a : ℕ). fold max a (fresh_from (place_next s (get_or sizes i 0)).1 (drop (i + 1) sizes))) (sym (number_next s (get_or sizes i 0) u.sound).1) ∙ now in
    record {
      sound = rw e (sound_next s (get_or sizes i 0) u.sound);
      few = omega (arith, u.few);
      rest = rw e counted;
    }

pub underway_all : (s : Packing) (sizes : List ℕ) (i : ℕ) → length sizes ≤ i → IsUnderway s sizes i → s.count ≡ modules_needed sizes
underway_all s sizes i h u = ap (λ (xs : List ℕ). fold max s.count (fresh_from s xs)) (sym (drop_all i sizes h)) ∙ u.rest

pub record IsPlaced (front : List ℕ) (s : Packing) (sizes : List ℕ) (i : ℕ) : Type 0 where
  pub sound : IsSound s
  pub few : s.count ≤ i
  pub rest : front ++ fresh_from s (drop i sizes) ≡ fresh sizes

pub placed_first : (sizes front : List ℕ) (s : Packing) → s ≡ none_opened → front ≡ [] → IsPlaced front s sizes 0
placed_first sizes front s e g = rw (e, g) (record { sound = tt; few = omega arith; rest = refl })

unrolled : (front : List ℕ) (s : Packing) (sizes : List ℕ) (i : ℕ) → i < length sizes → IsPlaced front s sizes i
    → front ++ ((place_next s (get_or sizes i 0)).0 ∷ fresh_from (place_next s (get_or sizes i 0)).1 (drop (i + 1) sizes)) ≡ fresh sizes
unrolled front s sizes i h u = sym (ap (λ (xs : List ℕ). front ++ fresh_from s xs) (drop_more sizes i 0 h)) ∙ u.rest

pub placed_next : (front more : List ℕ) (s v : Packing) (sizes : List ℕ) (i n : ℕ) → i < length sizes → n ≡ (place_next s (get_or sizes i 0)).0 → v ≡ (place_next s (get_or sizes i 0)).1 → v.count ≤ s.count + 1
    → more ≡ front ++ n ∷ [] → IsPlaced front s sizes i → IsPlaced more v sizes (i + 1)
placed_next front more s v sizes i n h g e f m u = record {
  sound = rw e (sound_next s (get_or sizes i 0) u.sound);
  few = omega (arith, u.few);
  rest = rw (m, e, g, append_assoc) (unrolled front s sizes i h u);
}

pub placed_number : (front : List ℕ) (s : Packing) (sizes : List ℕ) (i n : ℕ) → i < length sizes → n ≡ (place_next s (get_or sizes i 0)).0 → IsPlaced front s sizes i → n ≤ modules_needed sizes
placed_number front s sizes i n h g u =
    let whole = unrolled front s sizes i h u in
    let last = fresh_from (place_next s (get_or sizes i 0)).1 (drop (i + 1) sizes) in
    let all : modules_needed sizes ≡ fold max (max (fold max 0 front) n) last =
    ap (fold max 0) (sym whole) ∙ fold-append max 0 front ((place_next s (get_or sizes i 0)).0 ∷ last) ∙ ap (λ (x : ℕ). fold max (max (fold max 0 front) x) last) (sym g) in
    omega (arith, all, greatest_from last (max (fold max 0 front) n))

pub placed_all : (front : List ℕ) (s : Packing) (sizes : List ℕ) (i : ℕ) → length sizes ≤ i → IsPlaced front s sizes i → front ≡ fresh sizes
placed_all front s sizes i h u = sym (append-nil front) ∙ ap (λ (xs : List ℕ). front ++ fresh_from s xs) (sym (drop_all i sizes h)) ∙ u.rest
