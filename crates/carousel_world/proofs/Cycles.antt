-- The items of whole cycles.
use Rattle.std.proofs.Common.{◌≡◌, ℕ, zero, suc, ◌+◌, ◌-◌, ◌<◌, ◌≤◌, inl, inr, Bool, true, false, eqb, List, [], ◌∷◌, ◌++◌, length, take, drop, get_or, Some, None, refl, ap, sym, ◌∙◌, subst, append_assoc, arith}
use Rattle.std.proofs.lemmas.List.{drop_more, get_or-map, length-map, take-append-drop}
use Rattle.std.proofs.lemmas.Bool.{eqb-true}
use Rattle.std.proofs.lemmas.Option.{same_Some}
use Rattle.std.proofs.lemmas.List.Elements.{All-head, All-tail, All-nil, All-map, All-append, Contains-append_left, Contains-append_right}
use Rattle.std.proofs.lemmas.List.FromFn.{length-range_with_len, get_or-range_with_len, length-map-range_with_len, get_or-map-range_with_len}
use Rattle.std.specs.List.{All, Contains, flat_map, range_with_len}
use Rattle.carousel_profile.specs.declared.TheConstants.{BLOCK_SIZE}
use Rattle.path_tree.specs.Paths.{Bytes}
use Rattle.biop_object.specs.Names.{Layout, module_in}
use Rattle.cycle_planner.specs.Cycle.{Line, IsGroupOf, diis_of, blocks_of, round, greatest_weight, cycle_of}
use Rattle.cycle_planner.proofs.CallerLemmas.{cycle_all, cycle_begins, all_diis, dii_contained, group_has, group_known}
use Rattle.cycle_planner.specs.Weights.{AreWeights}
use Rattle.cycle_planner.specs.declared.Item.{Item}
use Rattle.cycle_planner.specs.declared.Item.TheVariants.{Dsi, Dii, Block}
use Rattle.ddb_block.specs.Blocks as ddb
use Rattle.generation.specs.Layouts.{lines_in}
use Rattle.generation.specs.Groups.{group_of}
use Rattle.generation.specs.Lawful.{layout_at, HasDii, IsItem}
use Rattle.generation.proofs.CallerLemmas.{dii_of_lines}
use Rattle.carousel_world.specs.Publishing.{repeat_list}
use Rattle.carousel_world.proofs.Modules.{IsSent, each_listed, group_few, listed_holds}

-- ---- the items of a cycle are the generation's

below : (n : ℕ) → All (λ b. b < n) (range_with_len 0 n)
below n = λ k d lt.
    let inside : k < n = omega (arith, length-range_with_len 0 n) in
    let is : get_or (range_with_len 0 n) k d ≡ k = get_or-range_with_len 0 n k d inside ∙ omega arith in
    rw is inside

line_for : ℕ × Bytes → Line
line_for m = (m.0, ddb.block_count_of (length m.1) BLOCK_SIZE)

blocks_are_items : (ls : List Layout) (g : ℕ) → g < length ls → (m : ℕ × Bytes) → module_in (layout_at ls g) m.0 ≡ Some m.1
    → All (IsItem ls g) (blocks_of (m.0, ddb.block_count_of (length m.1) BLOCK_SIZE))
blocks_are_items ls g lt m listed =
    All-map (IsItem ls g) (λ b. Block m.0 b) (range_with_len 0 (ddb.block_count_of (length m.1) BLOCK_SIZE))
    (λ k d inside. (lt, (m.1, listed, below (ddb.block_count_of (length m.1) BLOCK_SIZE) k d inside)))

modules_are_items : (ls : List Layout) (g : ℕ) → g < length ls → (ms : Layout) → All (λ m. module_in (layout_at ls g) m.0 ≡ Some m.1) ms
    → All (IsItem ls g) (flat_map blocks_of (lines_in ms))
modules_are_items ls g lt [] all = All-nil (IsItem ls g)
modules_are_items ls g lt (m ∷ ms) all =
    All-append (IsItem ls g) (blocks_of (m.0, ddb.block_count_of (length m.1) BLOCK_SIZE)) (flat_map blocks_of (lines_in ms))
    (blocks_are_items ls g lt m (All-head (λ m. module_in (layout_at ls g) m.0 ≡ Some m.1) m ms all))
    (modules_are_items ls g lt ms (All-tail (λ m. module_in (layout_at ls g) m.0 ≡ Some m.1) m ms all))

-- a group of its lines is that of one of its modules
dii_of_group : (ls : List Layout) (g : ℕ) → All (λ m. module_in (layout_at ls g) m.0 ≡ Some m.1) (layout_at ls g) → (j : ℕ) → IsGroupOf (lines_in (layout_at ls g)) j → HasDii ls g j
dii_of_group ls g all j (inl e) = inl e
dii_of_group ls g all j (inr h) =
    let layout = layout_at ls g in
    let line : ℕ × Bytes → Line = λ m. (m.0, ddb.block_count_of (length m.1) BLOCK_SIZE) in
    let n : length (lines_in layout) ≡ length layout = length-map layout line in
    let x = get_or layout h.1.0 (0, []) in
    let is : h.0 ≡ line x = sym h.1.2 ∙ get_or-map line layout h.1.0 (0, []) h.0 (omega (arith, h.1.1, n)) in
    inr (x.0, x.1, all h.1.0 (0, []) (omega (arith, h.1.1, n)), ap (λ (l : Line). group_of l.0) (sym is) ∙ h.2)

diis_are_items : (ls : List Layout) (g : ℕ) → g < length ls → All (λ m. module_in (layout_at ls g) m.0 ≡ Some m.1) (layout_at ls g) → All (IsItem ls g) (diis_of (lines_in (layout_at ls g)))
diis_are_items ls g lt all =
    let lines = lines_in (layout_at ls g) in
    all_diis (IsItem ls g) lines (λ j is. (lt, dii_of_group ls g all j (group_known lines j is.has), is.above, is.within))

pub cycle_items : (carousel : ℕ) (ls : List Layout) (g : ℕ) (weights : List ℕ) → IsSent carousel ls g → g < length ls → All (IsItem ls g) (cycle_of weights (lines_in (layout_at ls g)))
cycle_items carousel ls g weights sent lt =
    cycle_all (IsItem ls g) weights (lines_in (layout_at ls g)) lt (diis_are_items ls g lt (each_listed (layout_at ls g) sent.rising)) (modules_are_items ls g lt (layout_at ls g) (each_listed (layout_at ls g) sent.rising))

each_repeated : {A : Type 0} (P : A → Type 0) (n : ℕ) (xs : List A) → All P xs → All P (repeat_list n xs)
each_repeated P zero xs all = All-nil P
each_repeated P (suc n) xs all = All-append P xs (repeat_list n xs) all (each_repeated P n xs all)

pub sent_items : (carousel : ℕ) (ls : List Layout) (g : ℕ) (weights : List ℕ) (cycles : ℕ) → IsSent carousel ls g → g < length ls → All (IsItem ls g) (repeat_list cycles (cycle_of weights (lines_in (layout_at ls g))))
sent_items carousel ls g weights cycles sent lt = each_repeated (IsItem ls g) cycles (cycle_of weights (lines_in (layout_at ls g))) (cycle_items carousel ls g weights sent lt)

-- ---- each item is in a cycle

modules_have : (m b : ℕ) (bytes : Bytes) (ms : Layout) → module_in ms m ≡ Some bytes → b < ddb.block_count_of (length bytes) BLOCK_SIZE → Contains (flat_map blocks_of (lines_in ms)) (Block m b)
modules_have m b bytes [] e lt = absurd (none e) where
  none : None ≡ Some bytes → ⊥
  none e = cc
modules_have m b bytes (n ∷ ns) e lt = by (eqb n.0 m) refl (λ h. modules_have m b bytes ns h lt) where
  front : List Item
  front = blocks_of (n.0, ddb.block_count_of (length n.1) BLOCK_SIZE)

  by : (t : Bool) → eqb n.0 m ≡ t → (module_in ns m ≡ Some bytes → Contains (flat_map blocks_of (lines_in ns)) (Block m b)) → Contains (flat_map blocks_of (lines_in (n ∷ ns))) (Block m b)
  by true t rest =
      let same : n.1 ≡ bytes = same_Some n.1 bytes (rw t at e) in
      let inside : b < ddb.block_count_of (length n.1) BLOCK_SIZE = subst (λ y. b < ddb.block_count_of (length y) BLOCK_SIZE) (sym same) lt in
      let here : get_or front b (Block m b) ≡ Block n.0 b = get_or-map-range_with_len (λ k. Block n.0 k) 0 (ddb.block_count_of (length n.1) BLOCK_SIZE) b b (Block m b) inside (omega arith) in
      let there : Contains front (Block m b) =
      (b, omega (arith, length-map-range_with_len (λ k. Block n.0 k) 0 (ddb.block_count_of (length n.1) BLOCK_SIZE)), here ∙ ap (λ k. Block k b) (eqb-true n.0 m t)) in
      Contains-append_left front (flat_map blocks_of (lines_in ns)) (Block m b) there
  by false t rest = Contains-append_right front (flat_map blocks_of (lines_in ns)) (Block m b) (rest (rw t at e))

pub cycle_has : (ls : List Layout) (g m b : ℕ) → IsItem ls g (Block m b) → Contains (flat_map blocks_of (lines_in (layout_at ls g))) (Block m b)
cycle_has ls g m b item = modules_have m b item.1.0 (layout_at ls g) item.1.1 item.1.2

-- ---- whole cycles begin with a whole round

-- the rounds of a cycle after the first
abbrev pub later_rounds : List ℕ → List Line → List Item
later_rounds weights lines = flat_map (round weights lines) (range_with_len 1 (greatest_weight weights lines - 1))

pub some_lines : (layout : Layout) → 1 ≤ length layout → 0 < length (lines_in layout)
some_lines [] some = absurd (omega (arith, some))
some_lines (m ∷ ms) some = omega arith

pub first_round : (weights : List ℕ) (layout : Layout) (cycles : ℕ) → AreWeights weights → 1 ≤ length layout
    → repeat_list (suc cycles) (cycle_of weights (lines_in layout))
    ≡ Dsi ∷ ((diis_of (lines_in layout) ++ flat_map blocks_of (lines_in layout)) ++ (later_rounds weights (lines_in layout) ++ repeat_list cycles (cycle_of weights (lines_in layout))))
first_round weights layout cycles are some =
    let lines = lines_in layout in
    let others = repeat_list cycles (cycle_of weights lines) in
    ap (λ (xs : List Item). xs ++ others) (cycle_begins weights lines are (some_lines layout some))
    ∙ ap (λ (xs : List Item). Dsi ∷ xs) (append_assoc (diis_of lines ++ flat_map blocks_of lines) (later_rounds weights lines) others)

-- ---- a whole round

-- a DII with every block after it
pub record IsAhead (ls : List Layout) (g j : ℕ) (items : List Item) : Type 0 where
  pub before : List Item
  pub after : List Item
  pub place : items ≡ before ++ Dii j ∷ after
  pub blocks : (m b : ℕ) → IsItem ls g (Block m b) → Contains after (Block m b)

-- the DSI is among these items, and each DII of the generation with every block after it
pub record IsRound (ls : List Layout) (g : ℕ) (items : List Item) : Type 0 where
  pub gateway : Contains items Dsi
  pub diis : (j : ℕ) → HasDii ls g j → IsAhead ls g j items

-- a list about one of its elements
split : (xs : List Item) (x : Item) → Contains xs x → (before : List Item) × (after : List Item) × (xs ≡ before ++ x ∷ after)
split xs x c =
    (take c.0 xs, drop (c.0 + 1) xs, sym (take-append-drop c.0 xs) ∙ ap (λ ys. take c.0 xs ++ ys) (drop_more xs c.0 x c.1 ∙ ap (λ y. y ∷ drop (c.0 + 1) xs) c.2))

regroup : (before after blocks later : List Item) (x : Item) → Dsi ∷ (((before ++ x ∷ after) ++ blocks) ++ later) ≡ (Dsi ∷ before) ++ x ∷ ((after ++ blocks) ++ later)
regroup before after blocks later x = ap (λ xs. Dsi ∷ xs) (ap (λ xs. xs ++ later) (append_assoc before (x ∷ after) blocks) ∙ append_assoc before (x ∷ (after ++ blocks)) later)

-- the groups of a generation are the first ones
pub dii_range : (carousel : ℕ) (ls : List Layout) (g j : ℕ) → IsSent carousel ls g → HasDii ls g j → (1 ≤ j) × (j ≤ 16)
dii_range carousel ls g j sent (inl e) = (omega (arith, e), omega (arith, e))
dii_range carousel ls g j sent (inr has) =
    let few = group_few has.0 (listed_holds (λ x. x.0 ≤ 2224) (layout_at ls g) has.0 has.1 sent.ids has.2) in
    (omega (arith, has.3), omega (arith, has.3, few))

-- the DSI, the DIIs and all blocks are a whole round, whatever comes after them
pub begins_with_round : (carousel : ℕ) (ls : List Layout) (g : ℕ) (later : List Item) → IsSent carousel ls g
    → IsRound ls g (Dsi ∷ ((diis_of (lines_in (layout_at ls g)) ++ flat_map blocks_of (lines_in (layout_at ls g))) ++ later))
begins_with_round carousel ls g later sent =
    let lines = lines_in (layout_at ls g) in
    let blocks = flat_map blocks_of lines in
    record {
      gateway = (0, omega arith, refl);
      diis = λ j has.
          let range = dii_range carousel ls g j sent has in
          let cut = split (diis_of lines) (Dii j) (dii_contained lines j (record { above = range.0; within = range.1; has = group_has lines j (dii_of_lines ls g j has) })) in
          record {
            before = Dsi ∷ cut.0;
            after = (cut.1 ++ blocks) ++ later;
            place = ap (λ xs. Dsi ∷ ((xs ++ blocks) ++ later)) cut.2 ∙ regroup cut.0 cut.1 blocks later (Dii j);
            blocks = λ m b item. Contains-append_left (cut.1 ++ blocks) later (Block m b) (Contains-append_right cut.1 blocks (Block m b) (cycle_has ls g m b item));
          };
    }

-- a cycle is one
pub cycle_is_round : (carousel : ℕ) (ls : List Layout) (g : ℕ) (weights : List ℕ) → AreWeights weights → IsSent carousel ls g → IsRound ls g (cycle_of weights (lines_in (layout_at ls g)))
cycle_is_round carousel ls g weights are sent =
    let lines = lines_in (layout_at ls g) in
    subst (IsRound ls g) (sym (cycle_begins weights lines are (some_lines (layout_at ls g) sent.some))) (begins_with_round carousel ls g (later_rounds weights lines) sent)
