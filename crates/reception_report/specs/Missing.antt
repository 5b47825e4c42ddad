-- The blocks of a module that are missing, as runs of numbers.
use Rattle.std.specs.Prelude.{◌≡◌, ℕ, ◌+◌, ◌-◌, ◌<◌, ◌≤◌, Bool, true, false, not, ◌&&◌, ◌||◌, nat_le, ◌==◌, List, [], ◌∷◌, ◌++◌, map, Option, Some, None, if◌then◌else◌}
use Rattle.std.specs.Fmt.{decimal}
use Rattle.std.specs.List.{count_by, flat_map, range_with_len}
use Rattle.path_tree.specs.Paths.{Bytes}
use Rattle.ddb_block.specs.Blocks.{block_count_of}
use Rattle.module_cache.specs.Contents.{StoredState, has_block}

-- the first and the last number of a run
abbrev pub Run : Type 0
Run = ℕ × ℕ

-- ---- one block: where one that is missing begins a run, and one that is there ends it

-- the run that has begun before block number b + 1
abbrev pub begun_after : Option ℕ → ℕ → (there : Bool) → Option ℕ
begun_after None b false = Some b
begun_after (Some first) b false = Some first
begun_after begun b true = None

-- the run that block number b ends
abbrev pub ended_by : Option ℕ → ℕ → (there : Bool) → List Run
ended_by (Some first) b true = (first, b - 1) ∷ []
ended_by None b there = []
ended_by (Some first) b false = []

-- ---- all blocks

-- the runs from block number b on, where one has begun before it
unfoldable pub runs_from : ℕ → Option ℕ → List Bool → List Run
runs_from b begun [] = ended_by begun b true
runs_from b begun (there ∷ others) = ended_by begun b there ++ runs_from (b + 1) (begun_after begun b there) others

-- the numbers of its blocks, rising
abbrev pub numbers_of : StoredState → List ℕ
numbers_of s = range_with_len 0 (block_count_of s.size s.block_size)

abbrev pub missing_runs : StoredState → List Run
missing_runs s = runs_from 0 None (map (has_block s.content) (numbers_of s))

-- ---- in other words

-- the number lies in one of the runs
abbrev pub is_in : ℕ → List Run → Bool
is_in b [] = false
is_in b (run ∷ runs) = (nat_le run.0 b && nat_le b run.1) || is_in b runs

-- these are runs of numbers from `low` on and below n, which rise, and between each two there is a number
abbrev pub AreApart : (low n : ℕ) → List Run → Type 0
AreApart low n [] = Unit {0}
AreApart low n (run ∷ runs) = (low ≤ run.0) × ((run.0 ≤ run.1) × ((run.1 < n) × AreApart (run.1 + 2) n runs))

-- A block is missing exactly where its number lies in one of the runs. They rise, and between each two a block is there.
pub record RunsAreOfTheMissing : Type 0 where
  pub missing : (s : StoredState) (b : ℕ) → b < block_count_of s.size s.block_size → is_in b (missing_runs s) ≡ not (has_block s.content b)
  pub apart : (s : StoredState) → AreApart 0 (block_count_of s.size s.block_size) (missing_runs s)

-- ---- the text

abbrev pub run_text : Run → Bytes
run_text run = if run.0 == run.1 then decimal run.0 else decimal run.0 ++ 45 ∷ decimal run.1

-- each run after a space
abbrev pub runs_text : List Run → Bytes
runs_text runs = flat_map (λ run. 32 ∷ run_text run) runs

-- how many blocks are there
abbrev pub count_there : StoredState → ℕ
count_there s = count_by (has_block s.content) (numbers_of s)
