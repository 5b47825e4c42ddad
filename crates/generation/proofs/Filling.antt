-- What the modules of placed objects hold, and the layout that they make.
use Rattle.std.proofs.Common.{◌≡◌, ℕ, zero, suc, ◌+◌, ◌<◌, ◌≤◌, max, Bool, not, ◌==◌, List, [], ◌∷◌, ◌++◌, length, map, Option, Some, None, cond, refl, sym, ◌∙◌, ap, subst, arith, get_or, inl, inr, lit<, nat_le, sum, rules}
use Rattle.carousel_profile.specs.declared.TheConstants.{BLOCK_SIZE}
use Rattle.generation.proofs.Words.{common_steps, nat_tests, flat_map, key_bytes, folder_kind_of, entries_of, All, AllPairs, list_any, range_with_len, filter, filter_map, fold, count_by, sum_by, zip, cases_lt, cases_Bool, div_ceil_times, All-map, All-cons, All-filter, AllPairs-cons, sum_by-cons, sum-map, sum_by-le, length-flat_map, filter_map-append, get_or-map, length-map, Bytes, IsBytes, Tree, Layout, module_in, sum_in, AreLines, IsLayout, GREATEST_ID, object_bytes, is_in, module_bytes, module_if_used, layout_of, lines_in, greatest, objects_in, AreReady, ArePlaced, CodeObjects, Placed, option_cases, map-id, map-range_with_len_more}
use Rattle.generation.proofs.Placing.{each_entry, are_entries, each_valid, small_folders, within_limits, lengths, the_gateway, first_one, modules_seen, each_id}
use Rattle.std.proofs.lemmas.List.Filters.{sum_by-filter_both}
use Rattle.generation.proofs.Carrying.{each_listed_in}
use Rattle.std.proofs.lemmas.List.Sums.{length-filter}
use Rattle.std.proofs.lemmas.List.Folds.{fold-map}
use Rattle.biop_object.proofs.CallerLemmas.{four_octets, flat_octets, file_octets, folder_octets}
use Rattle.generation.proofs.Grouping.{line_of}

-- ---- modules by rising id

pub greatest_most : (ms : List ℕ) (a n : ℕ) → a ≤ n → All (λ m. (1 ≤ m) × (m ≤ n)) ms → fold max a ms ≤ n
greatest_most [] a n le all = le
greatest_most (m ∷ ms) a n le all = greatest_most ms (max a m) n (omega (arith, le, all 0 m (omega arith))) (λ k d lt. all (suc k) d (omega (arith, lt)))

-- ---- sizes

-- a module's bytes are bytes
each_octets : (c : ℕ) (t : Tree) (objects : List Placed) → ArePlaced t objects → All (λ o. IsBytes (object_bytes c objects o)) objects
each_octets c t objects placed = λ i d lt.
    let o = get_or objects i d in
    elim (option_cases o.spot.content) [
      | inl h ↦ rw h.1 (file_octets (key_bytes o.key) h.0 (four_octets o.key) refl ((each_valid t objects placed i d lt).bytes h.0 h.1))
      | inr h ↦ rw h (folder_octets (folder_kind_of o.spot.path) (key_bytes o.key) (entries_of c objects o.spot.number) (four_octets o.key) refl (are_entries c t objects placed o.spot.number)
          (each_entry (λ w. IsBytes w.name × IsBytes w.location.key) c t objects placed (λ q name id. (name.in_byte, four_octets q.key)) o.spot.number))
    ]

module_octets : (c : ℕ) (t : Tree) (objects : List Placed) → ArePlaced t objects → (m : ℕ) → IsBytes (module_bytes c objects m)
module_octets c t objects placed m =
    flat_octets (object_bytes c objects) (filter (is_in m) objects) (All-filter (is_in m) (λ o. IsBytes (object_bytes c objects o)) objects (each_octets c t objects placed))

-- what lies in a module, against its sum and its number of objects
piece_sum : (f : Placed → ℕ) (m : ℕ) (os : List Placed) → sum_by f (filter (is_in m) os) ≡ sum_in (zip (map (λ o. o.module_id) os) (map f os)) m
piece_sum f m [] = refl
piece_sum f m (o ∷ os) = grind (arith, common_steps, nat_tests, piece_sum f m os)

piece_count : (m : ℕ) (os : List Placed) → length (filter (is_in m) os) ≡ count_by (λ k. k == m) (map (λ o. o.module_id) os)
piece_count m os = length-filter (is_in m) os ∙ sym (fold-map (λ s k. s + cond (k == m) 1 0) (λ o. o.module_id) 0 os)

each_small : (c : ℕ) (t : Tree) (objects : List Placed) → ArePlaced t objects → All (λ o. length (object_bytes c objects o) ≤ 16777260) objects
each_small c t objects placed = λ i d lt. elim (option_cases (get_or objects i d).spot.content) [
  | inl h ↦ let size = (each_valid t objects placed i d lt).small h.0 h.1 in rw h.1 (omega (arith, size))
  | inr h ↦ let size = small_folders c t objects placed i d lt h in omega (arith, size)
]

module_size : (c : ℕ) (t : Tree) (objects : List Placed) → ArePlaced t objects → (m : ℕ) → length (module_bytes c objects m) ≤ 16842752
module_size c t objects placed m =
    let f : Placed → ℕ = λ o. length (object_bytes c objects o) in
    let is = length-flat_map (object_bytes c objects) (filter (is_in m) objects) in
    elim (cases_lt 1 (count_by (λ k. k == m) (map (λ o. o.module_id) objects))) [
      | inl many ↦
          let sum : sum_in (zip (map (λ o. o.module_id) objects) (map f objects)) m ≤ 65536 = subst (λ s. sum_in (zip (map (λ o. o.module_id) objects) s) m ≤ 65536) (sym (lengths c t objects placed)) (placed.placement.sums m many) in
          omega (arith, sum, is, piece_sum f m objects)
      | inr few ↦ omega (arith, is, few, piece_count m objects, sum_by-le f 16777260 (filter (is_in m) objects) (All-filter (is_in m) (λ o. f o ≤ 16777260) objects (each_small c t objects placed)))
    ]

-- ---- modules by rising id

-- the object lies in this module or a later one
abbrev is_from : ℕ → Placed → Bool
is_from m o = nat_le m o.module_id

part : (g : Placed → Bytes) (m : ℕ) (os : List Placed) → length (flat_map g (filter (is_in m) os)) + sum_by (λ o. length (g o)) (filter (is_from (m + 1)) os) ≡ sum_by (λ o. length (g o)) (filter (is_from m) os)
part g m [] = refl
part g m (o ∷ os) = grind (arith, common_steps, nat_tests, part g m os)

-- the modules of so many ids from one on
pub record AreListed (c : ℕ) (objects : List Placed) (a n : ℕ) (layout : Layout) : Type 0 where
  pub rising : AllPairs (λ m n. m.0 < n.0) layout
  pub each : All (λ m. (a ≤ m.0) × (m.0 < a + n) × (m.1 ≡ module_bytes c objects m.0)) layout
  pub total : sum_by (λ m. length m.1) layout ≤ sum_by (λ o. length (object_bytes c objects o)) (filter (is_from a) objects)

pub listed : (c : ℕ) (objects : List Placed) (a n : ℕ) → AreListed c objects a n (filter_map (module_if_used c objects) (range_with_len a n))
listed c objects a zero = record { rising = λ i j d lt l. absurd (omega (arith, l)); each = λ k d lt. absurd (omega (arith, lt)); total = omega arith }
listed c objects a (suc n) =
    let h = listed c objects (a + 1) n in
    let rest = filter_map (module_if_used c objects) (range_with_len (a + 1) n) in
    let size = part (object_bytes c objects) a objects in
    elim (cases_Bool (list_any (is_in a) objects)) [
      | inl e ↦ rw e (record {
        rising = search (rules, AllPairs-cons, h.rising, h.each);
        each = search (rules, All-cons, h.each);
        total = omega (arith, h.total, size, sum_by-cons (λ m. length m.1) (a, module_bytes c objects a) rest);
      })
      | inr e ↦ rw e (record { rising = h.rising; each = search (rules, h.each); total = omega (arith, h.total, size) })
    ]

pub layout_listed : (c : ℕ) (objects : List Placed) → AreListed c objects 1 (greatest (map (λ o. o.module_id) objects)) (layout_of c objects)
layout_listed c objects = listed c objects 1 (greatest (map (λ o. o.module_id) objects))

-- ---- the layout

pub record IsFine (layout : Layout) : Type 0 where
  pub form : IsLayout layout
  pub total : sum_by (λ m. length m.1) layout ≤ 268435456
  pub sizes : All (λ m. length m.1 ≤ 16842752) layout

pub fine : (c : ℕ) (t : Tree) (objects : List Placed) → ArePlaced t objects → IsFine (layout_of c objects)
fine c t objects placed =
    let most = greatest_most (map (λ o. o.module_id) objects) 0 GREATEST_ID (omega arith) placed.placement.numbers in
    let f : Placed → ℕ = λ o. length (object_bytes c objects o) in
    let layout = layout_of c objects in
    let l = layout_listed c objects in
    let h = the_gateway t objects placed.spots in
    let one = first_one objects h (λ o. o.module_id) placed.placement.first in
    let first = subst (All (λ o. module_in (layout_of c objects) o.module_id ≡ Some (module_bytes c objects o.module_id))) h.first
    (each_listed_in c objects (each_id t objects placed)) 0 h.gateway (omega arith) in
    record {
      form = record {
        rising = l.rising;
        from_one = λ k d lt. (l.each k d lt).0;
        ids = λ k d lt. omega (arith, (l.each k d lt).1, most);
        bytes = λ k d lt. subst IsBytes (sym (l.each k d lt).2) (module_octets c t objects placed (get_or layout k d).0);
        first = λ none. let bad = sym (ap (module_in layout) (sym one) ∙ first) ∙ none in cc;
      };
      total = omega (arith, l.total, sum_by-filter_both (is_from 1) (λ o. not (is_from 1 o)) (λ o. refl) f objects, sum-map f objects, ap sum (lengths c t objects placed), (within_limits t placed.within).total);
      sizes = λ k d lt. subst (λ b. length b ≤ 16842752) (sym (l.each k d lt).2) (module_size c t objects placed (get_or layout k d).0);
    }

pub lines_of_fine : (layout : Layout) → IsFine layout → AreLines (lines_in layout)
lines_of_fine [] fine = absurd (fine.form.first refl)
lines_of_fine (m ∷ ms) fine =
    let layout = m ∷ ms in
    record {
      some = omega arith;
      rising = λ i j d lt within. grind (arith, length-map layout line_of, get_or-map line_of layout i (0, []) d, get_or-map line_of layout j (0, []) d, fine.form.rising i j (0, []));
      ids = All-map (λ l. (1 ≤ l.0) × (l.0 ≤ GREATEST_ID)) line_of layout (λ k d lt. (fine.form.from_one k d lt, fine.form.ids k d lt));
      blocks = All-map (λ l. l.1 ≤ 65536) line_of layout (λ k d lt. omega (arith, fine.sizes k d lt, div_ceil_times (length (get_or layout k d).1) BLOCK_SIZE (lit< tt)));
    }

-- ---- the modules as the code goes through their ids

pub fine_as : (c : ℕ) (o : CodeObjects) (layout : Layout) → layout ≡ layout_of c (objects_in o) → AreReady o → IsFine layout
fine_as c o layout is ready = subst IsFine (sym is) (fine c o.tree (objects_in o) ready.placed)

range_push : (a n k : ℕ) → a + n ≡ k → range_with_len a (n + 1) ≡ range_with_len a n ++ k ∷ []
range_push a n k e = simp map-id at (map-range_with_len_more (λ i. i) a n k e)

pub ids_more : {A : Type 0} (f : ℕ → Option (ℕ × Bytes)) (v : A → ℕ × Bytes) (k : ℕ) (xs : List A) (x : A) → map v xs ≡ filter_map f (range_with_len 1 k) → Some (v x) ≡ f (k + 1)
    → map v (xs ++ x ∷ []) ≡ filter_map f (range_with_len 1 (k + 1))
ids_more f v k xs x so_far is = grind (arith, common_steps, filter_map-append, range_push 1 k (k + 1) (omega arith))

pub ids_same : {A : Type 0} (f : ℕ → Option (ℕ × Bytes)) (v : A → ℕ × Bytes) (k : ℕ) (xs : List A) → map v xs ≡ filter_map f (range_with_len 1 k) → None ≡ f (k + 1) → map v xs ≡ filter_map f (range_with_len 1 (k + 1))
ids_same f v k xs so_far is = grind (arith, common_steps, filter_map-append, range_push 1 k (k + 1) (omega arith))

pub all_ids : (c : ℕ) (o : CodeObjects) (k : ℕ) (layout : Layout) → k ≡ greatest (map (λ x. x.«module») o.all.items) → layout ≡ filter_map (module_if_used c (objects_in o)) (range_with_len 1 k) → layout ≡ layout_of c (objects_in o)
all_ids c o k layout ek is = rw (is, ek, modules_seen o.tree o.all.items) refl
