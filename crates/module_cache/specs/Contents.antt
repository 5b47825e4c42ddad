-- What is there of one module of a held DII.
use Rattle.std.specs.Prelude.{ℕ, Bool, true, false, not, List, length, Option, Some, None, is_some, nat_lt, ◌==◌, slice_set, replicate, if◌then◌else◌}
use Rattle.path_tree.specs.Paths.{Bytes}
use Rattle.ddb_block.specs.Blocks as ddb
use Rattle.block_assembler.specs.Blocks.{offer_of, join_all, block_in}
use Rattle.block_assembler.specs.declared.Offer.{Offer}
use Rattle.block_assembler.specs.declared.Offer.TheVariants as offers
use Rattle.module_cache.specs.declared.taken.Taken.{Taken}
use Rattle.module_cache.specs.declared.taken.Taken.TheVariants as taken

pub data Content : Type 0 where
  -- the module is compressed: nothing of it is taken
  Packed : Content
  -- a block is missing
  Blocks : List (Option Bytes) → Content
  Whole : Bytes → Content

pub record StoredState : Type 0 where
  pub size : ℕ
  pub block_size : ℕ
  pub content : Content

abbrev pub whole_or : List (Option Bytes) → Option Bytes → Content
whole_or blocks (Some bytes) = Whole bytes
whole_or blocks None = Blocks blocks

-- blocks of which none is missing are the whole module
abbrev pub content_of : List (Option Bytes) → Content
content_of blocks = whole_or blocks (join_all blocks)

abbrev pub by_offer : Offer → Taken
by_offer offers.WrongPlace = taken.WrongPlace
by_offer offers.WrongLength = taken.WrongLength
by_offer offers.Again = taken.Again
by_offer offers.New = taken.New

-- a block that is there already
abbrev pub taken_again : ℕ → ℕ → ℕ → Bytes → Taken
taken_again size block_size b bytes =
    if not (nat_lt b (ddb.block_count_of size block_size)) then taken.WrongPlace
    else (if not (length bytes == ddb.block_span_of size block_size b) then taken.WrongLength else taken.Again)

-- what an offered block answers
abbrev pub taken_at : ℕ → ℕ → Content → ℕ → Bytes → Taken
taken_at size block_size Packed b bytes = taken.Compressed
taken_at size block_size (Blocks blocks) b bytes = by_offer (offer_of (record { size = size; block_size = block_size; blocks = blocks }) b bytes)
taken_at size block_size (Whole module_bytes) b bytes = taken_again size block_size b bytes

abbrev pub taken_in : StoredState → ℕ → Bytes → Taken
taken_in s b bytes = taken_at s.size s.block_size s.content b bytes

abbrev pub is_new : Taken → Bool
is_new taken.New = true
is_new _ = false

abbrev pub with_block : Content → ℕ → Bytes → Content
with_block Packed b bytes = Packed
with_block (Blocks blocks) b bytes = content_of (slice_set blocks b (Some bytes))
with_block (Whole module_bytes) b bytes = Whole module_bytes

abbrev pub content_after : ℕ → ℕ → Content → ℕ → Bytes → Content
content_after size block_size c b bytes = if is_new (taken_at size block_size c b bytes) then with_block c b bytes else c

abbrev pub stored_after : StoredState → ℕ → Bytes → StoredState
stored_after s b bytes = record { size = s.size; block_size = s.block_size; content = content_after s.size s.block_size s.content b bytes }

-- a module of which nothing has come yet; one without bytes is whole at once
abbrev pub fresh_content : ℕ → ℕ → Bool → Content
fresh_content size block_size true = Packed
fresh_content size block_size false = content_of (replicate (ddb.block_count_of size block_size) None)

-- a block of the module is there, for the numbers of its blocks
abbrev pub has_block : Content → ℕ → Bool
has_block Packed b = false
has_block (Blocks blocks) b = is_some (block_in blocks b)
has_block (Whole bytes) b = true

abbrev pub bytes_of : Content → Option Bytes
bytes_of (Whole bytes) = Some bytes
bytes_of _ = None
