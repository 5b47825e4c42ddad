-- What is answered of one held DII, looking back over the DIIs of its identification.
use Rattle.std.specs.Prelude.{ℕ, not, List, length, Option, Some, None, is_some, nat_lt, ◌==◌, if◌then◌else◌}
use Rattle.std.specs.List.{find}
use Rattle.ddb_block.specs.Blocks as ddb
use Rattle.dsi_dii.specs.Controls.{DiiFields}
use Rattle.dsi_dii.specs.declared.ModuleLine.{ModuleLine}
use Rattle.module_cache.specs.Turns.{block_among, module_among}
use Rattle.module_cache.specs.Slots.{SlotState, Unlisted, Compressed, whole_or_part}
use Rattle.module_cache.specs.Spans.{Span, stretch}
use Rattle.module_cache.specs.declared.taken.Taken.{Taken}
use Rattle.module_cache.specs.declared.taken.Taken.TheVariants as taken

-- of a block of a module that the DII lists, by what was heard in the module's stretch
abbrev pub taken_since : {H : Type 0} → (H → Option ddb.Block) → List H → DiiFields → ModuleLine → ddb.Block → Taken
taken_since says since d l b =
    if not (l.version == b.version) then taken.OtherVersion
    else (if l.compressed then taken.Compressed
    else (if not (nat_lt b.number (ddb.block_count_of l.size d.block_size)) then taken.WrongPlace
    else (if not (length b.bytes == ddb.block_span_of l.size d.block_size b.number) then taken.WrongLength
    else (if is_some (block_among says since d l b.number) then taken.Again else taken.New))))

abbrev pub taken_listed : {H : Type 0} → (H → Option ddb.Block) → Span H → List (Span H) → ddb.Block → Option ModuleLine → Taken
taken_listed says s ss b (Some l) = taken_since says (stretch s ss l) s.dii l b
taken_listed says s ss b None = taken.Unlisted

-- what a block answers that is offered to the DII of the span `s`; `ss` are those before it
abbrev pub taken_among : {H : Type 0} → (H → Option ddb.Block) → Span H → List (Span H) → ddb.Block → Taken
taken_among says s ss b = if s.dii.download == b.download then taken_listed says s ss b (find (λ l. l.id == b.module_id) s.dii.modules) else taken.OtherDownload

abbrev pub slot_listed : {H : Type 0} → (H → Option ddb.Block) → Span H → List (Span H) → Option ModuleLine → SlotState
slot_listed says s ss (Some l) = if l.compressed then Compressed else whole_or_part (module_among says (stretch s ss l) s.dii l)
slot_listed says s ss None = Unlisted

-- what is there of a module by the DII of the span `s`
abbrev pub slot_among : {H : Type 0} → (H → Option ddb.Block) → Span H → List (Span H) → ℕ → SlotState
slot_among says s ss id = slot_listed says s ss (find (λ l. l.id == id) s.dii.modules)
