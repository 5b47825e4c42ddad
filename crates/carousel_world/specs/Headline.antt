-- What an answer is, under the premises, by what was heard.
use Rattle.std.specs.Prelude.{◌≡◌, ℕ, Bool, true, false, not, ◌&&◌, ◌==◌, List, [], ◌∷◌, map, Option, Some, None, is_some, if◌then◌else◌}
use Rattle.std.specs.List.{find, list_all, list_any, range_with_len}
use Rattle.path_tree.specs.Paths.{Bytes, PathNames}
use Rattle.path_tree.specs.Trees.{Node, File, Folder, NoSuch}
use Rattle.ior_tap.specs.declared.Location.{Location}
use Rattle.ddb_block.specs.Blocks.{block_count_of}
use Rattle.dsi_dii.specs.declared.ModuleLine.{ModuleLine}
use Rattle.biop_object.specs.Names.{Layout, thing_at, location_of}
use Rattle.generation.specs.Layouts.{gateway_location}
use Rattle.module_cache.specs.Joining.{outline, lists}
use Rattle.module_cache.specs.Turns.{admitted, has_admitted, before, Turn}
use Rattle.path_resolver.specs.declared.answer.Answer.{Answer}
use Rattle.path_resolver.specs.declared.answer.Answer.TheVariants as answers
use Rattle.tuner_core.specs.Heard.{Heard, ADsi, ADii, as_heard}
use Rattle.tuner_core.specs.LookBack.{block_among}
use Rattle.module_cache.specs.Spans.{Span}
use Rattle.tuner_core.specs.Turns.{identification, stretch, turns_of}

-- a file's bytes and a folder's names are those of the tree
abbrev pub IsNodeAnswer : Answer → Node → Type 0
IsNodeAnswer (answers.File b) (File c) = b ≡ c
IsNodeAnswer (answers.Folder ns) (Folder ms) = ns ≡ ms
IsNodeAnswer answers.NoSuch NoSuch = Unit {0}
IsNodeAnswer _ _ = ⊥

-- ---- what is there of a module

-- Of a module that a held DII lists, what was heard in its stretch is there: since the DIIs of that identification describe it as the
-- held one does, from turn to turn, with fewer than 256 commits from each turn to the next. `ss` are those DIIs before it. Of a
-- compressed module nothing is there.
abbrev pub block_of_line : Span Heard → List (Span Heard) → Option ModuleLine → ℕ → Option Bytes
block_of_line s ss (Some l) b = if l.compressed then None else block_among (stretch s ss l) s.dii l b
block_of_line s ss None b = None

-- each block is there
abbrev pub has_each_block : Span Heard → List (Span Heard) → ModuleLine → Bool
has_each_block s ss l = list_all (λ b. is_some (block_among (stretch s ss l) s.dii l b)) (range_with_len 0 (block_count_of l.size s.dii.block_size))

abbrev pub is_line_whole : Span Heard → List (Span Heard) → Option ModuleLine → Bool
is_line_whole s ss (Some l) = not l.compressed && has_each_block s ss l
is_line_whole s ss None = false

-- the module's line in the DII
abbrev pub line_in : Span Heard → ℕ → Option ModuleLine
line_in s m = find (λ l. l.id == m) s.dii.modules

-- the first of these DIIs that lists the module
abbrev pub listing : ℕ → List (Span Heard) → Option (Span Heard)
listing m ss = find (λ s. lists (outline s.dii) m) ss

abbrev pub block_by : List (Turn Heard) → ℕ → ℕ → Option (Span Heard) → Option Bytes
block_by ts m b (Some s) = block_of_line s (before s ts) (line_in s m) b
block_by ts m b None = None

-- by the DIIs that were admitted in the newest turn
abbrev pub block_in : List (Turn Heard) → ℕ → ℕ → Option Bytes
block_in [] m b = None
block_in (t ∷ ts) m b = block_by ts m b (listing m (admitted t))

-- block b of module m, after these candidates: the first that fits in the module's stretch
abbrev pub block_there : List Bytes → ℕ → ℕ → Option Bytes
block_there candidates m b = block_in (turns_of (map as_heard candidates)) m b

abbrev pub whole_by : List (Turn Heard) → ℕ → Option (Span Heard) → Bool
whole_by ts m (Some s) = is_line_whole s (before s ts) (line_in s m)
whole_by ts m None = false

abbrev pub is_whole_in : List (Turn Heard) → ℕ → Bool
is_whole_in [] m = false
is_whole_in (t ∷ ts) m = whole_by ts m (listing m (admitted t))

-- a held DII lists the module, and each block of it was heard; a module whose DII isn't held isn't whole
abbrev pub is_whole : List Bytes → ℕ → Bool
is_whole candidates m = is_whole_in (turns_of (map as_heard candidates)) m

-- ---- what waits

-- a DII that lists the module, and of whose identification none was admitted in this turn
abbrev pub is_awaited : Turn Heard → ℕ → Span Heard → Bool
is_awaited t m s = not (has_admitted t (identification s.dii)) && lists (outline s.dii) m

abbrev pub waits_by : List (Turn Heard) → Turn Heard → ℕ → ℕ → List (Turn Heard) → Option Bytes
waits_by ts t m b [] = None
waits_by ts t m b (u ∷ us) = if t.turning.kept then block_by us m b (find (is_awaited t m) (admitted u)) else None

-- a block of a module that waits for its DII: it was held before the last turn, which kept it, and no DII of its identification was
-- admitted since
abbrev pub waiting_in : List (Turn Heard) → ℕ → ℕ → Option Bytes
waiting_in [] m b = None
waiting_in (t ∷ ts) m b = waits_by ts t m b ts

-- ---- the walk in a generation

-- the modules of the locations on a path's walk, from a location on
abbrev pub modules_on : Layout → Option Location → PathNames → List ℕ
modules_on layout None p = []
modules_on layout (Some l) [] = l.module ∷ []
modules_on layout (Some l) (n ∷ ns) = l.module ∷ modules_on layout (location_of n (thing_at layout l)) ns

-- the first module on a path's walk that isn't whole
abbrev pub first_missing : ℕ → Layout → List Bytes → PathNames → Option ℕ
first_missing carousel layout candidates p = find (λ m. not (is_whole candidates m)) (modules_on layout (Some (gateway_location carousel)) p)

-- ---- what an open tells

abbrev pub is_dsi : Heard → Bool
is_dsi (ADsi d) = true
is_dsi _ = false

abbrev pub is_dii : Heard → Bool
is_dii (ADii d) = true
is_dii _ = false

-- a DSI and a DII were heard
abbrev pub has_carousel : List Bytes → Bool
has_carousel candidates = list_any is_dsi (map as_heard candidates) && list_any is_dii (map as_heard candidates)

-- NotYet exactly of the first module on the walk that isn't whole; where each is whole, the lookup
abbrev pub IsAnswer : Option ℕ → Node → Answer → Type 0
IsAnswer (Some m) node answer = answer ≡ answers.NotYet m
IsAnswer None node answer = IsNodeAnswer answer node
