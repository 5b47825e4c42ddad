-- The DIIs that are held, with what is there of their modules, and what waits for a DII of its identification: what one block and
-- one DII make of it, and what it is looking back.
use Rattle.std.specs.Prelude.{◌≡◌, ℕ, ◌+◌, nat_le, Bool, true, false, not, ◌&&◌, List, [], ◌∷◌, ◌++◌, map, Option, Some, None, ◌==◌, if◌then◌else◌}
use Rattle.std.specs.List.{filter, find, list_any, flat_map, sum_by, list_all}
use Rattle.dsi_dii.specs.Controls.{DiiFields}
use Rattle.dsi_dii.specs.declared.ModuleLine.{ModuleLine}
use Rattle.dsi_dii.specs.declared.TheConstants.{MOST_TOTAL_SIZE}
use Rattle.module_cache.specs.Held.{TunedState, tuned_with, tuned_after, taken_tuned, line_among, tuned_from, with_first, slot_in_line}
use Rattle.module_cache.specs.Slots.{SlotState, Unlisted}
use Rattle.module_cache.specs.Spans.{Span, version, identification, stretch}
use Rattle.module_cache.specs.Turns.{Turn, admitted, has_admitted, before}
use Rattle.module_cache.specs.declared.taken.Taken.{Taken}
use Rattle.ddb_block.specs.declared.TheConstants.{MOST_BLOCK_SIZE, MOST_BLOCKS}
use Rattle.block_assembler.specs.declared.TheConstants.{MOST_MODULE_SIZE}
use Rattle.ddb_block.specs.Blocks as ddb
use Rattle.module_cache.specs.Chains as chains
use Rattle.module_cache.specs.declared.taken.Taken.TheVariants as taken

-- ---- The limits of a receiver, which are this project's own.

abbrev pub no_id_twice : List ModuleLine → Bool
no_id_twice [] = true
no_id_twice (l ∷ ls) = not (list_any (λ k. k.id == l.id) ls) && no_id_twice ls

-- a module that can be put together of blocks of this size
abbrev pub is_small : ℕ → ModuleLine → Bool
is_small block_size l = nat_le l.size MOST_MODULE_SIZE && nat_le (ddb.block_count_of l.size block_size) MOST_BLOCKS

-- a DII whose modules can be received
abbrev pub is_within : DiiFields → Bool
is_within d =
    (nat_le 1 d.block_size && nat_le d.block_size MOST_BLOCK_SIZE) && list_all (is_small d.block_size) d.modules
    && nat_le (sum_by (λ l. l.size) d.modules) MOST_TOTAL_SIZE && no_id_twice d.modules

-- ---- what is held

-- the held DIIs in the order of admission, and those whose modules wait
pub record CacheState : Type 0 where
  pub held : List TunedState
  pub waiting : List TunedState

abbrev pub empty : CacheState
empty = record { held = []; waiting = [] }

-- ---- what a DII is compared with

pub record Outline : Type 0 where
  pub identification : ℕ
  pub version : ℕ
  pub modules : List ModuleLine

abbrev pub outline : DiiFields → Outline
outline d = record { identification = identification d; version = version d; modules = d.modules }

abbrev pub outline_held : TunedState → Outline
outline_held t = record { identification = t.identification; version = t.version; modules = map (λ x. x.line) t.lines }

abbrev pub lists : Outline → ℕ → Bool
lists o id = list_any (λ l. l.id == id) o.modules

-- one of these has the DII's identification
abbrev pub is_there : List Outline → DiiFields → Bool
is_there os d = list_any (λ o. o.identification == identification d) os

-- none of these lists a module of the DII
abbrev pub is_apart : List Outline → DiiFields → Bool
is_apart os d = not (list_any (λ l. list_any (λ o. lists o l.id) os) d.modules)

-- the modules of all of them fit into what a receiver holds
abbrev pub fits_beside : List Outline → DiiFields → Bool
fits_beside os d =
    nat_le (sum_by (λ o. sum_by (λ l. l.size) o.modules) os + sum_by (λ l. l.size) d.modules)
    MOST_TOTAL_SIZE

-- no module is listed twice, by one of these or by two
abbrev pub AreApart : List Outline → Type 0
AreApart [] = Unit {0}
AreApart (o ∷ os) = ((id : ℕ) → lists o id ≡ true → list_any (λ p. lists p id) os ≡ false) × AreApart os

abbrev pub AreOnce : List Outline → Type 0
AreOnce [] = Unit {0}
AreOnce (o ∷ os) = (no_id_twice o.modules ≡ true) × AreOnce os

-- ---- one DII

-- What waits under the DII's identification stays, whole or in part, exactly where both DIIs describe the module in the same way.
abbrev pub joining : List TunedState → DiiFields → TunedState
joining waiting d = tuned_from (find (λ t. t.identification == identification d) waiting) d

-- The DII is held beside the others. Nothing waits under its identification any more.
abbrev pub joined : CacheState → DiiFields → CacheState
joined c d = record { held = c.held ++ joining c.waiting d ∷ []; waiting = filter (λ t. not (identification d == t.identification)) c.waiting }

-- The DII is held in the place of all others. With `keep` their modules wait; what waited before is dropped.
abbrev pub turned : CacheState → DiiFields → Bool → CacheState
turned c d keep = joined (record { held = []; waiting = if keep then c.held else [] }) d

-- ---- one block

-- a held DII of the block's download that lists its module
abbrev pub has_line : ddb.Block → TunedState → Bool
has_line b t = (t.download == b.download) && lists (outline_held t) b.module_id

abbrev pub offered_held : List TunedState → ddb.Block → List TunedState
offered_held ts b = with_first (has_line b) (λ t. tuned_after t b) ts

abbrev pub offered : CacheState → ddb.Block → CacheState
offered c b = record { held = offered_held c.held b; waiting = c.waiting }

abbrev pub taken_unlisted : Bool → Bool → Taken
taken_unlisted held download = if not held then taken.NoDii else (if download then taken.Unlisted else taken.OtherDownload)

abbrev pub is_any : {X : Type 0} → List X → Bool
is_any [] = false
is_any (x ∷ xs) = true

abbrev pub taken_from : ddb.Block → Bool → Bool → Option TunedState → Taken
taken_from b held download (Some t) = taken_tuned t b
taken_from b held download None = taken_unlisted held download

-- by the first of these DIIs that has a line for it
abbrev pub taken_held : List TunedState → ddb.Block → Taken
taken_held ts b = taken_from b (is_any ts) (list_any (λ t. t.download == b.download) ts) (find (has_line b) ts)

abbrev pub taken_of : CacheState → ddb.Block → Taken
taken_of c b = taken_held c.held b

-- ---- one module

-- in the lines of all of these DIIs
abbrev pub slot_from : ℕ → List TunedState → SlotState
slot_from id ts = slot_in_line (find (λ x. x.line.id == id) (flat_map (λ t. t.lines) ts))

abbrev pub slot_at : CacheState → ℕ → SlotState
slot_at c id = slot_from id c.held

-- ---- looking back

-- the DII of the span `s` with the blocks that were heard in the stretch of each module that it lists; `ss` are the spans of its
-- identification before it
abbrev pub tuned_of : {H : Type 0} → (H → Option ddb.Block) → Span H → List (Span H) → TunedState
tuned_of says s ss = tuned_with s.dii (map (λ l. line_among says (stretch s ss l) s.dii l) s.dii.modules)

abbrev pub held_in : {H : Type 0} → (H → Option ddb.Block) → List (Turn H) → List TunedState
held_in says [] = []
held_in says (t ∷ ts) = map (λ s. tuned_of says s (before s ts)) (admitted t)

-- no DII of its identification was admitted since
abbrev pub still_waits : {H : Type 0} → Turn H → TunedState → Bool
still_waits t u = not (has_admitted t u.identification)

abbrev pub waiting_in : {H : Type 0} → (H → Option ddb.Block) → List (Turn H) → List TunedState
waiting_in says [] = []
waiting_in says (t ∷ ts) = if t.turning.kept then filter (still_waits t) (held_in says ts) else []

-- The DIIs that were admitted in the newest turn are held. Of those held before it, where it kept them, the ones wait of whose
-- identification none was admitted since.
abbrev pub state_in : {H : Type 0} → (H → Option ddb.Block) → List (Turn H) → CacheState
state_in says ts = record { held = held_in says ts; waiting = waiting_in says ts }

-- by the held DII of the block's download that lists its module
abbrev pub taken_by : {H : Type 0} → (H → Option ddb.Block) → List (Turn H) → ddb.Block → Bool → Option (Span H) → Taken
taken_by says ts b download (Some s) = chains.taken_among says s (before s ts) b
taken_by says ts b download None = taken_unlisted true download

-- what an offered block answers
abbrev pub taken_among : {H : Type 0} → (H → Option ddb.Block) → List (Turn H) → ddb.Block → Taken
taken_among says [] b = taken.NoDii
taken_among says (t ∷ ts) b =
    taken_by says ts b (list_any (λ s. s.dii.download == b.download) (admitted t)) (find (λ s. (s.dii.download == b.download) && lists (outline s.dii) b.module_id) (admitted t))

abbrev pub slot_by : {H : Type 0} → (H → Option ddb.Block) → List (Turn H) → ℕ → Option (Span H) → SlotState
slot_by says ts id (Some s) = chains.slot_among says s (before s ts) id
slot_by says ts id None = Unlisted

-- what is there of a module
abbrev pub slot_among : {H : Type 0} → (H → Option ddb.Block) → List (Turn H) → ℕ → SlotState
slot_among says [] id = Unlisted
slot_among says (t ∷ ts) id = slot_by says ts id (find (λ s. lists (outline s.dii) id) (admitted t))

-- ---- what the code keeps

abbrev pub AreDistinct : List ℕ → Type 0
AreDistinct [] = Unit {0}
AreDistinct (n ∷ ns) = (list_any (λ k. k == n) ns ≡ false) × AreDistinct ns
