-- DIIs that describe one generation, and turns from the DIIs of one generation to those of the next.
--
-- A DII that turns begins a turn, and DIIs may join it. Each DII that is admitted so opens a span, which goes on up to the next DII
-- that turns. What is there of a module was heard in its stretch, along the DIIs of one identification: in the span of the DII that
-- lists it now, and in those of the turns right before in which a DII of the same identification described it in the same way, as
-- long as each turn kept what was there. `H` is what is heard.
use Rattle.std.specs.Prelude.{ℕ, Bool, false, List, [], ◌∷◌, ◌++◌, map, Option, Some, None, ◌==◌, ◌&&◌, length, nat_lt, if◌then◌else◌}
use Rattle.std.specs.List.{find, list_any, filter_map, range_with_len}
use Rattle.std.specs.Option.{option_map_or, option_and_then}
use Rattle.dsi_dii.specs.Controls.{DiiFields}
use Rattle.module_cache.specs.Spans.{Span, identification}
use Rattle.path_tree.specs.Paths.{Bytes}
use Rattle.block_assembler.specs.Blocks.{first_of, join_all}
use Rattle.dsi_dii.specs.declared.ModuleLine.{ModuleLine}
use Rattle.ddb_block.specs.Blocks as ddb

-- the DII that turned and those that joined it, each with what was heard after it up to the next turn
pub record Turn (H : Type 0) : Type 0 where
  pub turning : Span H
  pub joined : List (Span H)

-- in the order of admission
abbrev pub admitted : {H : Type 0} → Turn H → List (Span H)
admitted t = t.turning ∷ t.joined

-- those of the newest turn; the newest turn stands first
abbrev pub newest : {H : Type 0} → List (Turn H) → List (Span H)
newest [] = []
newest (t ∷ ts) = admitted t

-- a DII of this identification was admitted in the turn
abbrev pub has_admitted : {H : Type 0} → Turn H → ℕ → Bool
has_admitted t i = list_any (λ s. identification s.dii == i) (admitted t)

-- ---- something more is heard, a DII turns, a DII joins

abbrev pub heard_by : {H : Type 0} → H → Span H → Span H
heard_by h s = record { dii = s.dii; kept = s.kept; since = s.since ++ h ∷ [] }

abbrev pub continued : {H : Type 0} → List (Turn H) → H → List (Turn H)
continued [] h = []
continued (t ∷ ts) h = record { turning = heard_by h t.turning; joined = map (heard_by h) t.joined } ∷ ts

abbrev pub with_turning : {H : Type 0} → List (Turn H) → DiiFields → Bool → List (Turn H)
with_turning ts d keep = record { turning = record { dii = d; kept = keep; since = [] }; joined = [] } ∷ ts

abbrev pub with_joined : {H : Type 0} → List (Turn H) → DiiFields → List (Turn H)
with_joined [] d = with_turning [] d false
with_joined (t ∷ ts) d = record { turning = t.turning; joined = t.joined ++ record { dii = d; kept = t.turning.kept; since = [] } ∷ [] } ∷ ts

-- ---- the DIIs of one identification

-- from turn to turn, the newest first, up to the first turn in which none of it was admitted
abbrev pub chain : {H : Type 0} → ℕ → List (Turn H) → List (Span H)
chain i [] = []
chain i (t ∷ ts) =
    option_map_or (λ s. s ∷ chain i ts) (find (λ s. identification s.dii == i) (admitted t)) []

-- the DIIs of this one's identification in the turns before it
abbrev pub before : {H : Type 0} → Span H → List (Turn H) → List (Span H)
before s ts = chain (identification s.dii) ts

-- ---- What is there of a module, looking back over what was heard since its blocks counted. `H` is what is heard, and `says` gives the
-- block in it, if it is one.

-- a block of this number of a module that the DII lists
abbrev pub fits : DiiFields → ModuleLine → ℕ → ddb.Block → Bool
fits held l b x =
    (x.download == held.download) && (x.module_id == l.id) && (x.version == l.version) && (x.number == b)
    && nat_lt b (ddb.block_count_of l.size held.block_size) && (length x.bytes == ddb.block_span_of l.size held.block_size b)

-- the bytes of the first such block
abbrev pub block_among : {H : Type 0} → (H → Option ddb.Block) → List H → DiiFields → ModuleLine → ℕ → Option Bytes
block_among says since held l b =
    first_of (filter_map (λ h. option_and_then (λ x. if fits held l b x then Some x.bytes else None)
    (says h)) since)

abbrev pub blocks_among : {H : Type 0} → (H → Option ddb.Block) → List H → DiiFields → ModuleLine → List (Option Bytes)
blocks_among says since held l = map (block_among says since held l) (range_with_len 0 (ddb.block_count_of l.size held.block_size))

-- a module's bytes, where it isn't compressed and each of its blocks is there
abbrev pub module_among : {H : Type 0} → (H → Option ddb.Block) → List H → DiiFields → ModuleLine → Option Bytes
module_among says since held l = if l.compressed then None else join_all (blocks_among says since held l)
