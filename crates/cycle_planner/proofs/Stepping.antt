-- What is still to come of a cycle, from each place to the next.
use Rattle.std.proofs.Common.{◌≡◌, ℕ, zero, suc, ◌+◌, ◌-◌, ◌<◌, ◌≤◌, List, [], ◌∷◌, ◌++◌, length, map, drop, sym, ap, ◌∙◌, append_assoc, arith}
use Rattle.std.proofs.lemmas.List.{drop_more, drop_all}
use Rattle.std.specs.List.{flat_map, range_with_len}
use Rattle.cycle_planner.specs.declared.Item.{Item}
use Rattle.cycle_planner.specs.declared.Item.TheVariants.{Dsi, Dii, Block}
use Rattle.cycle_planner.specs.Cycle.{Line, diis_of, diis_from, round, greatest_weight, cycle_of}
use Rattle.cycle_planner.specs.Rounds.{blocks_in_round}
use Rattle.cycle_planner.specs.Places.{blocks_from, rounds_from, lines_from, line_at, IsListed}
use Rattle.cycle_planner.proofs.Order.{first_round, round_is}
use Rattle.cycle_planner.proofs.Groups as groups

pub first_listed : (lines : List Line) → IsListed lines 1
first_listed = groups.first_listed

pub dii_first : (lines : List Line) (j : ℕ) → IsListed lines j → diis_from lines j ≡ Dii j ∷ diis_from lines (j + 1)
dii_first = groups.dii_first

all_rounds : (ws : List ℕ) (lines : List Line) → cycle_of ws lines ≡ Dsi ∷ rounds_from ws lines 0
all_rounds ws lines =
    let all : greatest_weight ws lines ≡ greatest_weight ws lines - 0 = omega arith in
    ap (λ n. Dsi ∷ flat_map (round ws lines) (range_with_len 0 n)) all

pub round_begins : (ws : List ℕ) (lines : List Line) (r : ℕ) → r < greatest_weight ws lines → rounds_from ws lines r ≡ diis_of lines ++ lines_from ws lines r 0
round_begins ws lines r h =
    first_round ws lines r h
    ∙ ap (λ xs. xs ++ rounds_from ws lines (r + 1)) (round_is ws lines r)
    ∙ append_assoc (diis_of lines) (flat_map (blocks_in_round ws r) lines) (rounds_from ws lines (r + 1))

pub begins : (ws : List ℕ) (lines : List Line) → 0 < greatest_weight ws lines → cycle_of ws lines ≡ Dsi ∷ (diis_from lines 1 ++ lines_from ws lines 0 0)
begins ws lines h = all_rounds ws lines ∙ ap (λ xs. Dsi ∷ xs) (round_begins ws lines 0 h)

-- without the DSI
behind : (xs : List Item) (at : ℕ) → 1 ≤ at → drop (at - 1) xs ≡ drop at (Dsi ∷ xs)
behind xs zero h = absurd (omega (arith, h))
behind xs (suc n) h = let less : suc n - 1 ≡ n = omega arith in ap (λ k. drop k xs) less

pub behind_dsi : (ws : List ℕ) (lines : List Line) (at : ℕ) → 1 ≤ at → drop (at - 1) (rounds_from ws lines 0) ≡ drop at (cycle_of ws lines)
behind_dsi ws lines at h = behind (rounds_from ws lines 0) at h ∙ ap (drop at) (sym (all_rounds ws lines))

-- no round is left
pub rounds_past : (ws : List ℕ) (lines : List Line) (r : ℕ) → greatest_weight ws lines ≤ r → rounds_from ws lines r ≡ []
rounds_past ws lines r h =
    let none : greatest_weight ws lines - r ≡ 0 = omega (arith, h) in
    ap (λ n. flat_map (round ws lines) (range_with_len r n)) none

-- no line of the round is left
pub lines_past : (ws : List ℕ) (lines : List Line) (r i : ℕ) → length lines ≤ i → lines_from ws lines r i ≡ rounds_from ws lines (r + 1)
lines_past ws lines r i h = ap (λ (ls : List Line). flat_map (blocks_in_round ws r) ls ++ rounds_from ws lines (r + 1)) (drop_all i lines h)

-- a line is passed over
pub line_begins : (ws : List ℕ) (lines : List Line) (r i : ℕ) → i < length lines → lines_from ws lines r i ≡ blocks_in_round ws r (line_at lines i) ++ lines_from ws lines r (i + 1)
line_begins ws lines r i h =
    let rest = flat_map (blocks_in_round ws r) (drop (i + 1) lines) in
    ap (λ (ls : List Line). flat_map (blocks_in_round ws r) ls ++ rounds_from ws lines (r + 1)) (drop_more lines i (0, 0) h)
    ∙ append_assoc (blocks_in_round ws r (line_at lines i)) rest (rounds_from ws lines (r + 1))

blocks_left : (line : Line) (b n m : ℕ) → n ≡ suc m → map (λ k. Block line.0 k) (range_with_len b n) ≡ Block line.0 b ∷ map (λ k. Block line.0 k) (range_with_len (b + 1) m)
blocks_left line b n m e = ap (λ j. map (λ k. Block line.0 k) (range_with_len b j)) e

pub block_first : (line : Line) (b : ℕ) → b < line.1 → blocks_from line b ≡ Block line.0 b ∷ blocks_from line (b + 1)
block_first line b h = blocks_left line b (line.1 - b) (line.1 - (b + 1)) (omega arith)
