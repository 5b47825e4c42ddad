-- Block messages, and how a module is cut into blocks.
use Rattle.std.specs.Prelude.{◌≡◌, ℕ, ◌*◌, ◌-◌, ◌<◌, min, map, List, [], ◌∷◌, ◌++◌, take, drop, Option, Some, None, Result, Ok}
use Rattle.std.specs.Int.{div_ceil}
use Rattle.std.specs.List.{sum, range_with_len}
use Rattle.oc_bytes.specs.Numbers.{two_bytes}
use Rattle.ddb_block.specs.Message.{IsMessage, message, message_at}
use Rattle.oc_bytes.specs.Cursor.{Reading, ◌>>=◌, from_start, value_only}
use Rattle.oc_bytes.specs.Grammar.{Grammar, one, two, number, field, gives, read as read_by, Reads as ReadsBy}
use Rattle.ddb_block.specs.declared.Ddb.{Ddb}
use Rattle.ddb_block.specs.declared.Parts.{Parts}
use Rattle.ddb_block.specs.declared.DdbFault.{DdbFault}
use Rattle.ddb_block.specs.declared.DdbFault.TheVariants as faults

pub record Block : Type 0 where
  pub download : ℕ
  pub module_id : ℕ
  pub version : ℕ
  pub number : ℕ
  pub bytes : List ℕ

abbrev pub view : Ddb → Block
view d = record { download = d.download; module_id = d.module; version = d.version; number = d.block; bytes = d.bytes.items }

-- a block message that lends its bytes
abbrev pub parts_view : Parts → Block
parts_view p = record { download = p.download; module_id = p.module; version = p.version; number = p.block; bytes = p.bytes.now }

-- numbers that have a spelling
pub record Fits (b : Block) : Type 0 where
  pub download : b.download < 4294967296
  pub module_id : b.module_id < 65536
  pub version : b.version < 256
  pub number : b.number < 65536

-- the fields before a block's bytes: moduleId, moduleVersion and blockNumber
abbrev pub block_fields : Grammar (ℕ × ℕ × ℕ)
block_fields =
    field (number two) (λ f. f.0) λ module_id.
    field (number one) (λ f. f.1) λ version.
    field (number one) (λ f. 0xFF) λ reserved.
    field (number two) (λ f. f.2) λ block.
    gives (module_id, version, block)

abbrev pub fields_of : Block → ℕ × ℕ × ℕ
fields_of b = (b.module_id, b.version, b.number)

pub record Reads (payload : List ℕ) (b : Block) : Type 0 where
  pub front : List ℕ
  pub fields : ReadsBy block_fields front (fields_of b)
  pub message : IsMessage payload 0x1003 b.download (front ++ b.bytes)

abbrev pub spelling : Block → List ℕ
spelling b = message 0x1003 b.download (two_bytes b.module_id ++ (b.version ∷ 0xFF ∷ []) ++ two_bytes b.number ++ b.bytes)

abbrev pub block_count_of : ℕ → ℕ → ℕ
block_count_of size block_size = div_ceil size block_size

-- how many bytes a block has: all but the last have the block size
abbrev pub block_span_of : ℕ → ℕ → ℕ → ℕ
block_span_of size block_size n = min block_size (size - n * block_size)

-- the spans of a size add up to it
pub record SpansFill (size block_size : ℕ) : Type 0 where
  pub fill : sum (map (block_span_of size block_size) (range_with_len 0 (block_count_of size block_size))) ≡ size

-- the bytes of block number n of a module
abbrev pub block_of : List ℕ → ℕ → ℕ → List ℕ
block_of bytes block_size n = take block_size (drop (n * block_size) bytes)

abbrev pub cause : DdbFault → Option ℕ
cause (faults.NotDdb place) = Some place
cause faults.NoMemory = None

unfoldable pub block_at : List ℕ → Reading Block
block_at payload = do
  download ← message_at 0x1003 (from_start payload)
  fields ← read_by block_fields download.1
  Ok (record { download = download.0; module_id = fields.0.0; version = fields.0.1; number = fields.0.2; bytes = fields.1.rest }, fields.1)

-- what reading gives: the block, or the place of the first field that breaks a rule or is cut
abbrev pub read : List ℕ → Result Block ℕ
read payload = value_only (block_at payload)
