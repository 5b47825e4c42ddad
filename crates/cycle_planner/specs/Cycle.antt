-- The order in which a generation's items are sent.
use Rattle.std.specs.Prelude.{◌≡◌, ⊤, ℕ, ◌+◌, ◌-◌, ◌*◌, ◌<◌, ◌≤◌, max, Bool, true, false, ◌&&◌, ◌||◌, ◌==◌, List, ◌∷◌, ◌++◌, length, map, nat_lt, ◌⊎◌, Contains}
use Rattle.std.specs.List.{All, flat_map, filter, fold, list_any, range_with_len, AllPairs, sum_by, count_by}
use Rattle.cycle_planner.specs.Weights.{weight}
use Rattle.cycle_planner.specs.declared.Item.{Item}
use Rattle.cycle_planner.specs.declared.Item.TheVariants.{Dsi, Dii, Block}
use Rattle.ddb_block.specs.declared.TheConstants.{MOST_BLOCKS}
use Rattle.module_groups.specs.declared.TheConstants.{GREATEST_ID, MOST_GROUPS}
use Rattle.module_groups.specs.Groups.{group_of}

-- a module's id and the number of its blocks
abbrev pub Line : Type 0
Line = ℕ × ℕ

abbrev pub blocks_of : Line → List Item
blocks_of line = map (λ b. Block line.0 b) (range_with_len 0 line.1)

-- how many rounds a cycle has
abbrev pub greatest_weight : List ℕ → List Line → ℕ
greatest_weight weights lines = fold (λ r line. max r (weight weights line.0)) 0 lines

-- whether there is a DII of a group: always of the first, and of each other one with a module
abbrev pub has_group : List Line → ℕ → Bool
has_group lines j = (j == 1) || list_any (λ line. group_of line.0 == j) lines

-- the groups with a DII, from one on, by rising number
unfoldable pub groups_from : List Line → ℕ → List ℕ
groups_from lines j = filter (has_group lines) (range_with_len j (MOST_GROUPS + 1 - j))

-- the DIIs of a round from a group on, and all of them
abbrev pub diis_from : List Line → ℕ → List Item
diis_from lines j = map (λ group. Dii group) (groups_from lines j)

abbrev pub diis_of : List Line → List Item
diis_of lines = diis_from lines 1

-- round r: the DIIs by rising group, and the blocks of the modules whose weight is above r
abbrev pub round : List ℕ → List Line → ℕ → List Item
round weights lines r = diis_of lines ++ flat_map blocks_of (filter (λ line. nat_lt r (weight weights line.0)) lines)

-- the DSI, and then the rounds
abbrev pub cycle_of : List ℕ → List Line → List Item
cycle_of weights lines = Dsi ∷ flat_map (round weights lines) (range_with_len 0 (greatest_weight weights lines))

-- the lines of a generation: at least one module, ids that rise within their range, and block numbers of 16 bits
pub record AreLines (lines : List Line) : Type 0 where
  pub some : 0 < length lines
  pub rising : AllPairs (λ a b. a.0 < b.0) lines
  pub ids : All (λ l. (1 ≤ l.0) × (l.0 ≤ GREATEST_ID)) lines
  pub blocks : All (λ l. l.1 ≤ MOST_BLOCKS) lines

abbrev pub is_dsi : Item → Bool
is_dsi Dsi = true
is_dsi _ = false

abbrev pub is_dii : (group : ℕ) → Item → Bool
is_dii j (Dii group) = group == j
is_dii j _ = false

abbrev pub is_block : (module_id block : ℕ) → Item → Bool
is_block m b (Block n c) = (m == n) && (b == c)
is_block m b _ = false

-- the group is the first, or that of one of the lines
abbrev pub IsGroupOf : List Line → ℕ → Type 0
IsGroupOf lines j = (j ≡ 1) ⊎ ((line : Line) × Contains lines line × (group_of line.0 ≡ j))

-- the item is the DSI, the DII of a group of the lines, or a block of one of them
abbrev pub IsOfLines : List Line → Item → Type 0
IsOfLines lines Dsi = ⊤
IsOfLines lines (Dii j) = IsGroupOf lines j
IsOfLines lines (Block m b) = (line : Line) × Contains lines line × (line.0 ≡ m) × (b < line.1)

-- the DSI once, the DII of each group once in each round, each block of a module as often as the module
-- weighs, and nothing else
pub record SendsEach (weights : List ℕ) (lines : List Line) : Type 0 where
  pub size : length (cycle_of weights lines)
      ≡ 1 + greatest_weight weights lines * length (diis_of lines)
      + sum_by (λ line. weight weights line.0 * line.1) lines
  pub dsi : count_by is_dsi (cycle_of weights lines) ≡ 1
  pub diis : (j : ℕ) → IsGroupOf lines j
      → count_by (is_dii j) (cycle_of weights lines) ≡ greatest_weight weights lines
  pub rounds : (j r : ℕ) → IsGroupOf lines j → r < greatest_weight weights lines
      → count_by (is_dii j) (round weights lines r) ≡ 1
  pub blocks : (line : Line) (b : ℕ) → Contains lines line → b < line.1
      → count_by (is_block line.0 b) (cycle_of weights lines) ≡ weight weights line.0
  pub only : All (IsOfLines lines) (cycle_of weights lines)
