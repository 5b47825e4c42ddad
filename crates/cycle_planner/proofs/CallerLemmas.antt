-- Lemmas for those who use this crate.
use Rattle.std.proofs.Common.{◌≡◌, ℕ, zero, suc, ◌+◌, ◌-◌, ◌*◌, ◌<◌, ◌≤◌, ◌==◌, max, cond, Bool, true, List, [], ◌∷◌, ◌++◌, length, drop, Some, slice_get, arith, replicate, refl, sym, ap, ◌∙◌, get_or}
use Rattle.std.proofs.lemmas.Bool.{ne_eqb}
use Rattle.std.specs.List.{All, Contains, flat_map, fold, range_with_len, sum_by}
use Rattle.std.proofs.lemmas.List.{get_or-replicate, length-replicate}
use Rattle.std.proofs.lemmas.List.Elements.{All-weaker, All-contains_itself, Contains-append_left, Contains-append_right}
use Rattle.std.proofs.lemmas.List.Sums.{sum_by-cons}
use Rattle.std.proofs.Math.Nat.{mul-le-mul_right}
use Rattle.cycle_planner.specs.declared.Item.{Item}
use Rattle.cycle_planner.specs.declared.Item.TheVariants.{Dsi, Dii, Block}
use Rattle.cycle_planner.specs.Cycle.{Line, has_group, diis_of, blocks_of, round, greatest_weight, cycle_of, AreLines, IsGroupOf}
use Rattle.cycle_planner.specs.Places.{IsListed}
use Rattle.cycle_planner.specs.Weights.{weight, AreWeights}
use Rattle.cycle_planner.proofs.Groups as groups
use Rattle.cycle_planner.proofs.Order as order
use Rattle.cycle_planner.proofs.Placing as placing

-- ---- the items of a cycle

-- what holds of the DSI, of each DII and of all blocks holds of each item
pub cycle_all : (P : Item → Type 0) (ws : List ℕ) (lines : List Line) → P Dsi → All P (diis_of lines) → All P (flat_map blocks_of lines) → All P (cycle_of ws lines)
cycle_all = order.cycle_all

-- what holds of the DII of each group that has one
pub all_diis : (P : Item → Type 0) (lines : List Line) → ((j : ℕ) → IsListed lines j → P (Dii j)) → All P (diis_of lines)
all_diis = groups.all_diis

-- a group that passes the test is the first, or that of a line; the other way round too
pub group_known : (lines : List Line) (j : ℕ) → has_group lines j ≡ true → IsGroupOf lines j
group_known = groups.group_known

pub group_listed : (lines : List Line) → AreLines lines → (j : ℕ) → IsGroupOf lines j → IsListed lines j
group_listed = groups.group_listed

pub group_has : (lines : List Line) (j : ℕ) → IsGroupOf lines j → has_group lines j ≡ true
group_has = groups.group_has

-- the DII of a group that has one is there
pub dii_contained : (lines : List Line) (j : ℕ) → IsListed lines j → Contains (diis_of lines) (Dii j)
dii_contained = groups.dii_contained

-- what holds of each block of each line
pub all_blocks_of : (P : Item → Type 0) (lines : List Line) → ((line : Line) (b : ℕ) → Contains lines line → b < line.1 → P (Block line.0 b)) → All P (flat_map blocks_of lines)
all_blocks_of = order.all_blocks_of

later : (x z : Item) (xs : List Item) → Contains xs z → Contains (x ∷ xs) z
later x z xs c = (suc c.0, omega (arith, c.1), c.2)

-- each item is the DSI, a DII or one of all blocks
pub cycle_only : (ws : List ℕ) (lines : List Line) → All (Contains (Dsi ∷ (diis_of lines ++ flat_map blocks_of lines))) (cycle_of ws lines)
cycle_only ws lines =
    let diis = diis_of lines in
    let blocks = flat_map blocks_of lines in
    let Own : Item → Type 0 = Contains (Dsi ∷ (diis ++ blocks)) in
    cycle_all Own ws lines (0, omega arith, refl)
    (All-weaker (Contains diis) Own (λ item inside. later Dsi item (diis ++ blocks) (Contains-append_left diis blocks item inside)) diis (All-contains_itself diis))
    (All-weaker (Contains blocks) Own (λ item inside. later Dsi item (diis ++ blocks) (Contains-append_right diis blocks item inside)) blocks (All-contains_itself blocks))

-- the first round is whole
pub cycle_begins : (ws : List ℕ) (lines : List Line) → AreWeights ws → 0 < length lines
    → cycle_of ws lines ≡ Dsi ∷ ((diis_of lines ++ flat_map blocks_of lines) ++ flat_map (round ws lines) (range_with_len 1 (greatest_weight ws lines - 1)))
cycle_begins = order.cycle_begins

-- the item at which a walk stands, and what is left behind it
pub item_behind : (xs rest : List Item) (at : ℕ) (item : Item) → drop at xs ≡ item ∷ rest → slice_get xs at ≡ Some item
item_behind = placing.item_behind

pub behind_item : (xs rest : List Item) (at : ℕ) (item : Item) → drop at xs ≡ item ∷ rest → rest ≡ drop (at + 1) xs
behind_item = placing.behind_item

few_rounds : (ws : List ℕ) (a : ℕ) (lines : List Line) → AreWeights ws → a ≤ 8 → fold (λ r line. max r (weight ws line.0)) a lines ≤ 8
few_rounds ws a [] are h = h
few_rounds ws a (line ∷ lines) are h =
    let most : weight ws line.0 ≤ 8 = (order.known_weight ws line.0 are).1 in
    few_rounds ws (max a (weight ws line.0)) lines are (omega (arith, h, most))

weighed : (ws : List ℕ) (lines : List Line) → AreWeights ws → sum_by (λ l. weight ws l.0 * l.1) lines ≤ 8 * sum_by (λ l. l.1) lines
weighed ws [] are = omega arith
weighed ws (line ∷ lines) are =
    let here : weight ws line.0 * line.1 ≤ 8 * line.1 = mul-le-mul_right line.1 (order.known_weight ws line.0 are).1 in
    let heavy = sum_by-cons (λ (l : Line). weight ws l.0 * l.1) line lines in
    let plain = sum_by-cons (λ (l : Line). l.1) line lines in
    let rest = weighed ws lines are in
    omega (arith, here, heavy, plain, rest)

-- its items are at most the DSI, 16 DIIs in each of 8 rounds, and 8 for each block
pub cycle_at_most : (ws : List ℕ) (lines : List Line) → AreWeights ws → length (cycle_of ws lines) ≤ 129 + 8 * sum_by (λ l. l.1) lines
cycle_at_most ws lines are =
    let rounds : greatest_weight ws lines ≤ 8 = few_rounds ws 0 lines are (omega arith) in
    let diis : greatest_weight ws lines * length (diis_of lines) ≤ 8 * 16 = order.products (greatest_weight ws lines) 8 (length (diis_of lines)) 16 rounds (groups.few_diis lines) in
    omega (arith, order.cycle_length ws lines, diis, weighed ws lines are)

-- ---- the weight 1 for every module

pub weighs_one : (m : ℕ) → 1 ≤ m → m ≤ 2224 → 1 ≡ weight (replicate 2224 1) m
weighs_one m low high = sym (get_or-replicate {A = ℕ} 2224 (m - 1) 1 1 (omega (arith, low, high)))

pub are_ones : AreWeights (replicate 2224 1)
are_ones = record { number = length-replicate {A = ℕ} 2224 1; range = each }
  where
    each : All (λ w. (1 ≤ w) × (w ≤ 8)) (replicate 2224 1)
    each k d h =
        let one = get_or-replicate {A = ℕ} 2224 k 1 d (omega (arith, h, length-replicate {A = ℕ} 2224 1)) in
        (omega (arith, one), omega (arith, one))

-- ---- the weight 2 for module 1, and 1 for every other

less_one : (k : ℕ) → suc k ≡ suc (suc k) - 1
less_one k = omega arith

pub are_twice_first : AreWeights (2 ∷ replicate 2223 1)
are_twice_first = record { number = ap suc (length-replicate {A = ℕ} 2223 1); range = each }
  where
    each : All (λ w. (1 ≤ w) × (w ≤ 8)) (2 ∷ replicate 2223 1)
    each zero d h = (omega arith, omega arith)
    each (suc k) d h =
        let one : get_or (replicate 2223 1) k d ≡ 1 = get_or-replicate {A = ℕ} 2223 k 1 d (omega (arith, h, length-replicate {A = ℕ} 2223 1)) in
        (omega (arith, one), omega (arith, one))

other : (k : ℕ) → ◌≡◌ {A = ℕ} (cond (suc (suc k) == 1) 2 1) 1
other k =
    let pick : Bool → ℕ = λ b. cond b 2 1 in
    ap pick (ne_eqb (suc (suc k)) 1 (omega arith))

pub weighs_first_twice : (m : ℕ) → 1 ≤ m → m ≤ 2224 → cond (m == 1) 2 1 ≡ weight (2 ∷ replicate 2223 1) m
weighs_first_twice zero low high = absurd (omega arith)
weighs_first_twice (suc zero) low high = refl
weighs_first_twice (suc (suc k)) low high =
    other k ∙ sym (get_or-replicate {A = ℕ} 2223 k 1 1 (omega (arith, high))) ∙ ap (λ (n : ℕ). get_or (2 ∷ replicate 2223 1) n 1) (less_one k)
