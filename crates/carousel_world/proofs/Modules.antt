-- What follows from the limits of a layout: each of its DIIs is one that every receiver takes.
use Rattle.std.proofs.Common.{◌≡◌, ◌≢◌, ℕ, suc, ◌+◌, ◌<◌, ◌≤◌, Bool, true, false, not, eqb, leb, List, [], ◌∷◌, map, length, get_or, Some, None, refl, ap, sym, ◌∙◌, subst, arith}
use Rattle.std.proofs.lemmas.Bool.{eqb-true, eq-eqb, ne_eqb, le-leb, and_from, or_from, not_from_false}
use Rattle.std.proofs.lemmas.List.Elements.{All-head, All-tail, All-cons, All-nil, All-map, All-filter}
use Rattle.std.proofs.lemmas.List.Sums.{sum_by-cons}
use Rattle.std.specs.List.{All, AllPairs, list_all, list_any, sum_by, filter}
use Rattle.std.proofs.lemmas.List.Kept.{AllPairs-filter}
use Rattle.carousel_profile.specs.declared.TheConstants.{BLOCK_SIZE}
use Rattle.path_tree.specs.Paths.{Bytes}
use Rattle.path_tree.specs.Trees.{Tree}
use Rattle.ddb_block.specs.Blocks.{block_count_of}
use Rattle.dsi_dii.specs.Controls.{identification_of, version_of}
use Rattle.dsi_dii.specs.declared.ModuleLine.{ModuleLine}
use Rattle.biop_object.specs.Names.{Layout, module_in}
use Rattle.generation.specs.Lawful.{Lawful, IsLayout, layout_at, version_in, dii_in}
use Rattle.generation.specs.Groups.{group_of, is_in_group, group_in, dii_transaction}
use Rattle.tuner_core.specs.Limits.{no_id_twice, is_small}
use Rattle.tuner_core.specs.LookBack.{is_sound}
use Rattle.tuner_core.specs.Turns.{version}
use Rattle.generation.proofs.CallerLemmas.{at_layout, few_of_group, rising_few}

-- a generation whose layout keeps the limits
pub record IsSent (carousel : ℕ) (ls : List Layout) (g : ℕ) : Type 0 where
  pub carousel_id : carousel < 4294967296
  pub generation : g < 16384
  pub some : 1 ≤ length (layout_at ls g)
  pub rising : AllPairs (λ m n. m.0 < n.0) (layout_at ls g)
  pub from_one : All (λ m. 1 ≤ m.0) (layout_at ls g)
  pub ids : All (λ m. m.0 ≤ 2224) (layout_at ls g)
  pub total : sum_by (λ m. length m.1) (layout_at ls g) ≤ 268435456
  pub sizes : All (λ m. length m.1 ≤ 16842752) (layout_at ls g)

pub is_sent : (carousel : ℕ) (ls : List Layout) (ts : List Tree) (g : ℕ) → Lawful carousel ls ts → g < length ls → IsSent carousel ls g
is_sent carousel ls ts g lawful lt =
    let maps : IsLayout (layout_at ls g) = at_layout IsLayout ls g lawful.maps lt in
    record {
      carousel_id = lawful.carousel_id;
      generation = omega (arith, lawful.few);
      some = some_module (layout_at ls g) maps.first;
      rising = maps.rising;
      from_one = maps.from_one;
      ids = maps.ids;
      total = at_layout (λ l. sum_by (λ m. length m.1) l ≤ 268435456) ls g lawful.total lt;
      sizes = at_layout (λ l. All (λ m. length m.1 ≤ 16842752) l) ls g lawful.sizes lt;
    } where
      some_module : (layout : Layout) → module_in layout 1 ≢ None → 1 ≤ length layout
      some_module [] first = absurd (first refl)
      some_module (m ∷ ms) first = omega arith

-- ---- ids that rise

abbrev Rising : Layout → Type 0
Rising layout = AllPairs (λ m n. m.0 < n.0) layout

above_first : (n : ℕ × Bytes) (ns : Layout) → Rising (n ∷ ns) → All (λ m. n.0 < m.0) ns
above_first n ns rising = λ k d lt. rising 0 (suc k) d (omega arith) (omega (arith, lt))

rest_rising : (n : ℕ × Bytes) (ns : Layout) → Rising (n ∷ ns) → Rising ns
rest_rising n ns rising = λ i j d lt h. rising (suc i) (suc j) d (omega (arith, lt)) (omega (arith, h))

past_first : (n : ℕ × Bytes) (ns : Layout) (id : ℕ) → n.0 < id → module_in (n ∷ ns) id ≡ module_in ns id
past_first n ns id lt =
    let other : eqb n.0 id ≡ false = ne_eqb n.0 id (λ e. omega arith) in
    rw other refl

at_first : (n : ℕ × Bytes) (ns : Layout) → module_in (n ∷ ns) n.0 ≡ Some n.1
at_first n ns =
    let same : eqb n.0 n.0 ≡ true = eq-eqb n.0 n.0 refl in
    rw same refl

-- each module is found under its id
pub each_listed : (layout : Layout) → Rising layout → All (λ m. module_in layout m.0 ≡ Some m.1) layout
each_listed [] rising = All-nil (λ m. module_in [] m.0 ≡ Some m.1)
each_listed (n ∷ ns) rising = later (each_listed ns (rest_rising n ns rising)) where
  later : All (λ m. module_in ns m.0 ≡ Some m.1) ns → All (λ m. module_in (n ∷ ns) m.0 ≡ Some m.1) (n ∷ ns)
  later rest = All-cons (λ m. module_in (n ∷ ns) m.0 ≡ Some m.1) n ns (at_first n ns)
      (λ k d lt. past_first n ns (get_or ns k d).0 (above_first n ns rising k d lt) ∙ rest k d lt)

-- what is found under an id is a module
pub listed_holds : (P : ℕ × Bytes → Type 0) (layout : Layout) (m : ℕ) (b : Bytes) → All P layout → module_in layout m ≡ Some b → P (m, b)
listed_holds P [] m b all e = cc
listed_holds P (n ∷ ns) m b all e = by (eqb n.0 m) refl (listed_holds P ns m b (All-tail P n ns all)) where
  by : (t : Bool) → eqb n.0 m ≡ t → (module_in ns m ≡ Some b → P (m, b)) → P (m, b)
  by true t rest =
      let bytes : n.1 ≡ b = let f = rw t at e in cc in
      subst (λ x. P (x, b)) (eqb-true n.0 m t) (subst (λ y. P (n.0, y)) bytes (All-head P n ns all))
  by false t rest = rest (rw t at e)

-- ---- the numbers of a DII

pub number_is : (g j : ℕ) → j ≤ 16 → identification_of (dii_transaction g j) ≡ j
number_is g j le = omega (arith, le)

pub generation_is : (g j : ℕ) → g < 16384 → j ≤ 16 → version_of (dii_transaction g j) ≡ g
generation_is g j lt le = omega (arith, lt, le)

pub group_some : (m : ℕ) → 1 ≤ group_of m
group_some m = omega arith

pub group_few : (m : ℕ) → m ≤ 2224 → group_of m ≤ 16
group_few m le = omega (arith, le)

-- ---- the modules of a group

-- what is found in a group is of the group
pub of_group : (j : ℕ) (ms : Layout) (m : ℕ) (b : Bytes) → module_in (filter (is_in_group j) ms) m ≡ Some b → eqb (group_of m) j ≡ true
of_group j [] m b e = cc
of_group j (n ∷ ns) m b e = go (eqb (group_of n.0) j) refl (eqb n.0 m) refl (of_group j ns m b) where
  go : (t : Bool) → eqb (group_of n.0) j ≡ t → (u : Bool) → eqb n.0 m ≡ u → (module_in (filter (is_in_group j) ns) m ≡ Some b → eqb (group_of m) j ≡ true) → eqb (group_of m) j ≡ true
  go false f u g rest = rest (rw f at e)
  go true f true g rest = subst (λ k. eqb (group_of k) j ≡ true) (eqb-true _ _ g) f
  go true f false g rest = rest (rw (f, g) at e)

-- a module of a group is one of the layout
pub in_layout : (j : ℕ) (ms : Layout) (m : ℕ) (b : Bytes) → module_in (filter (is_in_group j) ms) m ≡ Some b → module_in ms m ≡ Some b
in_layout j [] m b e = cc
in_layout j (n ∷ ns) m b e = go (eqb (group_of n.0) j) refl (eqb n.0 m) refl (in_layout j ns m b) (of_group j ns m b) where
  go : (t : Bool) → eqb (group_of n.0) j ≡ t → (u : Bool) → eqb n.0 m ≡ u → (module_in (filter (is_in_group j) ns) m ≡ Some b → module_in ns m ≡ Some b)
      → (module_in (filter (is_in_group j) ns) m ≡ Some b → eqb (group_of m) j ≡ true) → module_in (n ∷ ns) m ≡ Some b
  go false f false g rest own = rw g (rest (rw f at e))
  go false f true g rest own = let mine : eqb (group_of n.0) j ≡ true = subst (λ k. eqb (group_of k) j ≡ true) (sym (eqb-true _ _ g)) (own (rw f at e)) in cc
  go true f true g rest own = rw g (rw (f, g) at e)
  go true f false g rest own = rw g (rest (rw (f, g) at e))

-- and a module of the layout is one of its group
pub in_its_group : (j : ℕ) (ms : Layout) (m : ℕ) (b : Bytes) → eqb (group_of m) j ≡ true → module_in ms m ≡ Some b → module_in (filter (is_in_group j) ms) m ≡ Some b
in_its_group j [] m b own e = cc
in_its_group j (n ∷ ns) m b own e = go (eqb (group_of n.0) j) refl (eqb n.0 m) refl (in_its_group j ns m b own) where
  go : (t : Bool) → eqb (group_of n.0) j ≡ t → (u : Bool) → eqb n.0 m ≡ u → (module_in ns m ≡ Some b → module_in (filter (is_in_group j) ns) m ≡ Some b) → module_in (filter (is_in_group j) (n ∷ ns)) m ≡ Some b
  go false f false g rest = rw f (rest (rw g at e))
  go false f true g rest = let mine : eqb (group_of n.0) j ≡ true = subst (λ k. eqb (group_of k) j ≡ true) (sym (eqb-true _ _ g)) own in cc
  go true f true g rest = rw (f, g) (rw g at e)
  go true f false g rest = rw (f, g) (rest (rw g at e))

-- as many as a DII has room for
pub few_in_group : (carousel : ℕ) (ls : List Layout) (g j : ℕ) → IsSent carousel ls g → 1 ≤ j → length (group_in (layout_at ls g) j) ≤ 139
few_in_group carousel ls g j sent some = few_of_group (layout_at ls g) j (record { rising = sent.rising; from_one = sent.from_one }) some

pub few_modules : (carousel : ℕ) (ls : List Layout) (g : ℕ) → IsSent carousel ls g → length (layout_at ls g) ≤ 2224
few_modules carousel ls g sent =
    let below : All (λ m. m.0 < 2225) (layout_at ls g) = λ k d lt. under (get_or (layout_at ls g) k d).0 (sent.ids k d lt) in
    let count : length (layout_at ls g) + 1 ≤ 2225 = rising_few (layout_at ls g) 1 2225 (omega arith) sent.rising sent.from_one below in
    omega (arith, count)
  where
    under : (m : ℕ) → m ≤ 2224 → m < 2225
    under m le = omega (arith, le)

-- ---- the lines of a DII

abbrev pub line_of : (ℕ → ℕ) → ℕ × Bytes → ModuleLine
line_of version m = record { id = m.0; size = length m.1; version = version m.0; compressed = false }

pub none_any : {X : Type 0} (test : X → Bool) (xs : List X) → All (λ x. test x ≡ false) xs → list_any test xs ≡ false
none_any test [] all = refl
none_any test (x ∷ xs) all =
    or_from (test x) (list_any test xs) (All-head (λ y. test y ≡ false) x xs all) (none_any test xs (All-tail (λ y. test y ≡ false) x xs all))

pub each_all : {X : Type 0} (test : X → Bool) (xs : List X) → All (λ x. test x ≡ true) xs → list_all test xs ≡ true
each_all test [] all = refl
each_all test (x ∷ xs) all =
    and_from (test x) (list_all test xs) (All-head (λ y. test y ≡ true) x xs all) (each_all test xs (All-tail (λ y. test y ≡ true) x xs all))

pub no_twice : (version : ℕ → ℕ) (layout : Layout) → Rising layout → no_id_twice (map (line_of version) layout) ≡ true
no_twice version [] rising = refl
no_twice version (n ∷ ns) rising =
    and_from (not (list_any (λ k. eqb k.id n.0) (map (line_of version) ns))) (no_id_twice (map (line_of version) ns))
    (not_from_false (list_any (λ k. eqb k.id n.0) (map (line_of version) ns))
    (none_any (λ k. eqb k.id n.0) (map (line_of version) ns)
    (All-map (λ k. eqb k.id n.0 ≡ false) (line_of version) ns
    (λ k d lt. let above : n.0 < (get_or ns k d).0 = above_first n ns rising k d lt in ne_eqb (get_or ns k d).0 n.0 (λ e. omega arith)))))
    (no_twice version ns (rest_rising n ns rising))

pub few_blocks : (size : ℕ) → size ≤ 16842752 → block_count_of size BLOCK_SIZE ≤ 65536
few_blocks size le = omega arith

pub small_line : (version : ℕ → ℕ) (m : ℕ × Bytes) → length m.1 ≤ 16842752 → is_small BLOCK_SIZE (line_of version m) ≡ true
small_line version m le =
    and_from (leb (length m.1) 16842752) (leb (block_count_of (length m.1) BLOCK_SIZE) 65536)
    (le-leb (length m.1) 16842752 le) (le-leb (block_count_of (length m.1) BLOCK_SIZE) 65536 (few_blocks (length m.1) le))

pub same_total : (version : ℕ → ℕ) (layout : Layout) → sum_by (λ (l : ModuleLine). l.size) (map (line_of version) layout) ≡ sum_by (λ m. length m.1) layout
same_total version [] = refl
same_total version (n ∷ ns) =
    sum_by-cons (λ (l : ModuleLine). l.size) (line_of version n) (map (line_of version) ns)
    ∙ ap (λ s. length n.1 + s) (same_total version ns)
    ∙ sym (sum_by-cons (λ (m : ℕ × Bytes). length m.1) n ns)

-- ---- the DII is sound

part_of_sum : (j : ℕ) (ms : Layout) → sum_by (λ m. length m.1) (filter (is_in_group j) ms) ≤ sum_by (λ m. length m.1) ms
part_of_sum j [] = omega arith
part_of_sum j (n ∷ ns) = go (eqb (group_of n.0) j) refl (part_of_sum j ns) where
  go : (t : Bool) → eqb (group_of n.0) j ≡ t → sum_by (λ m. length m.1) (filter (is_in_group j) ns) ≤ sum_by (λ m. length m.1) ns → sum_by (λ m. length m.1) (filter (is_in_group j) (n ∷ ns)) ≤ sum_by (λ m. length m.1) (n ∷ ns)
  go true f rest = rw f (omega (arith, rest, sum_by-cons (λ (m : ℕ × Bytes). length m.1) n ns, sum_by-cons (λ (m : ℕ × Bytes). length m.1) n (filter (is_in_group j) ns)))
  go false f rest = rw f (omega (arith, rest, sum_by-cons (λ (m : ℕ × Bytes). length m.1) n ns))

-- every receiver takes each DII of a generation that is sent
pub is_taken : (carousel : ℕ) (ls : List Layout) (g j : ℕ) → IsSent carousel ls g → 1 ≤ j → j ≤ 16 → is_sound (dii_in carousel ls g j) ≡ true
is_taken carousel ls g j sent some few =
    let ms = group_in (layout_at ls g) j in
    let lines = map (line_of (version_in ls g)) ms in
    let total : sum_by (λ (l : ModuleLine). l.size) lines ≤ 268435456 = omega (arith, same_total (version_in ls g) ms, part_of_sum j (layout_at ls g), sent.total) in
    let other : eqb (identification_of (dii_transaction g j)) 0 ≡ false = ne_eqb _ _ (λ e. zero_not (identification_of (dii_transaction g j)) j (number_is g j few) e some) in
    let named : not (eqb (identification_of (dii_transaction g j)) 0) ≡ true = ap not other in
    let small : list_all (is_small BLOCK_SIZE) lines ≡ true = each_all (is_small BLOCK_SIZE) lines
    (All-map (λ l. is_small BLOCK_SIZE l ≡ true) (line_of (version_in ls g)) ms
    (λ k d lt. small_line (version_in ls g) (get_or ms k d) (All-filter (is_in_group j) (λ m. length m.1 ≤ 16842752) (layout_at ls g) sent.sizes k d lt))) in
    let little : leb (sum_by (λ (l : ModuleLine). l.size) lines) 268435456 ≡ true = le-leb (sum_by (λ (l : ModuleLine). l.size) lines) 268435456 total in
    let once : no_id_twice lines ≡ true = no_twice (version_in ls g) ms (AllPairs-filter (λ m n. m.0 < n.0) (is_in_group j) (layout_at ls g) sent.rising) in
    rw (named, small, little, once) refl
  where
    zero_not : (i j : ℕ) → i ≡ j → i ≡ 0 → 1 ≤ j → ⊥
    zero_not i j e f le = omega (arith, e, f, le)
