-- One held DII with what is there of its modules: what one block makes of it, what it takes over from another DII, and what it is
-- looking back.
use Rattle.std.specs.Prelude.{ℕ, Bool, true, false, ◌&&◌, List, [], ◌∷◌, map, Option, Some, None, ◌==◌, if◌then◌else◌}
use Rattle.std.specs.List.{find}
use Rattle.ddb_block.specs.Blocks as ddb
use Rattle.dsi_dii.specs.Controls.{DiiFields, version_of, identification_of}
use Rattle.dsi_dii.specs.declared.ModuleLine.{ModuleLine}
use Rattle.module_cache.specs.Contents.{Content, Packed, content_of, taken_in, stored_after, fresh_content}
use Rattle.module_cache.specs.Turns.{blocks_among}
use Rattle.module_cache.specs.Slots.{SlotState, Unlisted, slot_of}
use Rattle.module_cache.specs.Spans.{same_line}
use Rattle.module_cache.specs.declared.stored.Line.{Line}
use Rattle.module_cache.specs.declared.taken.Taken.{Taken}
use Rattle.module_cache.specs.declared.taken.Taken.TheVariants as taken

-- of the held DII what blocks and other DIIs are compared with, and for each module that it lists what is there of it
pub record TunedState : Type 0 where
  pub download : ℕ
  pub block_size : ℕ
  pub identification : ℕ
  pub version : ℕ
  pub lines : List Line

abbrev pub tuned_with : DiiFields → List Line → TunedState
tuned_with d lines = record {
  download = d.download;
  block_size = d.block_size;
  identification = identification_of d.transaction;
  version = version_of d.transaction;
  lines = lines;
}

-- ---- one block

-- the line of a block's module, where it has the block's version
abbrev pub line_after : ddb.Block → Line → Line
line_after b x = if x.line.version == b.version then record { line = x.line; stored = stored_after x.stored b.number b.bytes } else x

-- the first element that passes is changed
abbrev pub with_first : {X : Type 0} → (X → Bool) → (X → X) → List X → List X
with_first p f [] = []
with_first p f (x ∷ xs) = if p x then f x ∷ xs else x ∷ with_first p f xs

abbrev pub lines_after : ddb.Block → List Line → List Line
lines_after b xs = with_first (λ x. x.line.id == b.module_id) (line_after b) xs

abbrev pub tuned_after : TunedState → ddb.Block → TunedState
tuned_after t b = if t.download == b.download then record t { lines = lines_after b t.lines } else t

abbrev pub taken_line : ddb.Block → Option Line → Taken
taken_line b None = taken.Unlisted
taken_line b (Some x) = if x.line.version == b.version then taken_in x.stored b.number b.bytes else taken.OtherVersion

abbrev pub taken_tuned : TunedState → ddb.Block → Taken
taken_tuned t b = if t.download == b.download then taken_line b (find (λ x. x.line.id == b.module_id) t.lines) else taken.OtherDownload

-- ---- one module

abbrev pub slot_in_line : Option Line → SlotState
slot_in_line None = Unlisted
slot_in_line (Some x) = slot_of x.stored.content

-- ---- one DII

-- the line of a module of which nothing has come yet
abbrev pub line_fresh : ℕ → ModuleLine → Line
line_fresh block_size l = record { line = l; stored = record { size = l.size; block_size = block_size; content = fresh_content l.size block_size l.compressed } }

abbrev pub fresh_tuned : DiiFields → TunedState
fresh_tuned d = tuned_with d (map (line_fresh d.block_size) d.modules)

-- a line with what was there of the module, where it is described in the same way
abbrev pub kept_line : ℕ → ModuleLine → Option Line → Line
kept_line block_size l (Some x) = if same_line x.line l then record { line = l; stored = x.stored } else line_fresh block_size l
kept_line block_size l None = line_fresh block_size l

abbrev pub line_from : TunedState → DiiFields → ModuleLine → Line
line_from t d l =
    if (t.download == d.download) && (t.block_size == d.block_size)
    then kept_line d.block_size l (find (λ x. x.line.id == l.id) t.lines) else line_fresh d.block_size l

-- What is there of a module by another DII stays, whole or in part, exactly where both DIIs describe the module in the same way.
abbrev pub tuned_from : Option TunedState → DiiFields → TunedState
tuned_from None d = fresh_tuned d
tuned_from (Some t) d = tuned_with d (map (line_from t d) d.modules)

-- ---- looking back

abbrev pub content_among : {H : Type 0} → (H → Option ddb.Block) → List H → DiiFields → ModuleLine → Bool → Content
content_among says since d l true = Packed
content_among says since d l false = content_of (blocks_among says since d l)

abbrev pub line_among : {H : Type 0} → (H → Option ddb.Block) → List H → DiiFields → ModuleLine → Line
line_among says since d l = record { line = l; stored = record { size = l.size; block_size = d.block_size; content = content_among says since d l l.compressed } }
