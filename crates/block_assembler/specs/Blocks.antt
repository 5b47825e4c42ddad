-- Blocks that make a module.
use Rattle.std.specs.Prelude.{◌≡◌, ℕ, ◌<◌, ◌≤◌, Bool, true, false, not, ◌&&◌, List, [], ◌∷◌, ◌++◌, length, replicate, Option, Some, None, is_some, nat_lt, ◌==◌, map, slice_set, slice_index_or, if◌then◌else◌, option_map}
use Rattle.std.specs.Option.{option_zip}
use Rattle.std.specs.List.{after_last, filter_map, range_with_len}
pub use Rattle.oc_bytes.specs.Numbers.{Bytes}
use Rattle.ddb_block.specs.Blocks.{block_count_of, block_span_of, block_of}
use Rattle.ddb_block.specs.declared.TheConstants.{MOST_BLOCK_SIZE, MOST_BLOCKS}
use Rattle.block_assembler.specs.declared.TheConstants.{MOST_MODULE_SIZE}
use Rattle.block_assembler.specs.declared.Offer.{Offer}
use Rattle.block_assembler.specs.declared.Offer.TheVariants.{WrongPlace, WrongLength, Again, New}

-- What a module's size and block size have to be. A block fills at most what a section has room for, and block numbers
-- have 16 bits; the greatest size is this project's own rule.
pub record IsAssembled (size block_size : ℕ) : Type 0 where
  pub some_block_size : 0 < block_size
  pub small_block_size : block_size ≤ MOST_BLOCK_SIZE
  pub small : size ≤ MOST_MODULE_SIZE
  pub few : block_count_of size block_size ≤ MOST_BLOCKS

-- a module's size and block size, and what is there, block by block
pub record AssemblerState : Type 0 where
  pub size : ℕ
  pub block_size : ℕ
  pub blocks : List (Option Bytes)

abbrev pub empty_of : ℕ → ℕ → AssemblerState
empty_of size block_size = record { size = size; block_size = block_size; blocks = replicate (block_count_of size block_size) None }

-- the block in a place, if one is there
abbrev pub block_in : List (Option Bytes) → ℕ → Option Bytes
block_in blocks b = slice_index_or blocks b None

abbrev pub fits : ℕ → ℕ → ℕ → Bytes → Bool
fits size block_size b bytes = nat_lt b (block_count_of size block_size) && (length bytes == block_span_of size block_size b)

-- what an offer answers, the first that holds
abbrev pub offer_of : AssemblerState → ℕ → Bytes → Offer
offer_of a b bytes =
    if not (nat_lt b (block_count_of a.size a.block_size)) then WrongPlace
    else (if not (length bytes == block_span_of a.size a.block_size b) then WrongLength
    else (if is_some (block_in a.blocks b) then Again else New))

abbrev pub is_new : Offer → Bool
is_new New = true
is_new _ = false

abbrev pub after_offer : AssemblerState → ℕ → Bytes → AssemblerState
after_offer a b bytes = if is_new (offer_of a b bytes) then record a { blocks = slice_set a.blocks b (Some bytes) } else a

abbrev pub after_forget : AssemblerState → ℕ → AssemblerState
after_forget a b = record a { blocks = slice_set a.blocks b None }

-- the bytes, where each block is there
abbrev pub join_all : List (Option Bytes) → Option Bytes
join_all [] = Some []
join_all (x ∷ xs) = option_map (λ p. p.0 ++ p.1) (option_zip x (join_all xs))

-- an assembler whose bytes were given away: what is left of it
pub record EmptiedState : Type 0 where
  pub size : ℕ
  pub block_size : ℕ

-- with these bytes: each block is there, and has its part of them
abbrev pub refilled : EmptiedState → Bytes → AssemblerState
refilled e bytes = record {
  size = e.size;
  block_size = e.block_size;
  blocks = map (λ b. Some (block_of bytes e.block_size b)) (range_with_len 0 (block_count_of e.size e.block_size));
}

-- ---- over a list of calls: what a caller did with the assembler since it was made

pub data Call : Type 0 where
  Offered : ℕ → Bytes → Call
  Forgotten : ℕ → Call

abbrev pub forgets : ℕ → Call → Bool
forgets b (Forgotten c) = b == c
forgets b (Offered c bytes) = false

-- the calls since the place was last forgotten, or all of them
abbrev pub since_forgotten : ℕ → List Call → List Call
since_forgotten b calls = after_last (forgets b) calls

-- the bytes of a fitting block of the place
abbrev pub offered_at : ℕ → ℕ → ℕ → Call → Option Bytes
offered_at size block_size b (Offered c bytes) = if (b == c) && fits size block_size b bytes then Some bytes else None
offered_at size block_size b (Forgotten c) = None

abbrev pub first_of : List Bytes → Option Bytes
first_of [] = None
first_of (bytes ∷ others) = Some bytes

-- the first fitting block that was offered for the place since it was last forgotten
abbrev pub held_at : ℕ → ℕ → ℕ → List Call → Option Bytes
held_at size block_size b calls = first_of (filter_map (offered_at size block_size b) (since_forgotten b calls))

-- The assembler has in each place what the calls say of that place.
pub record StandsFor (a : AssemblerState) (size block_size : ℕ) (calls : List Call) : Type 0 where
  pub sizes : (a.size ≡ size) × (a.block_size ≡ block_size)
  pub number : length a.blocks ≡ block_count_of size block_size
  pub each : (b : ℕ) → b < block_count_of size block_size → block_in a.blocks b ≡ held_at size block_size b calls
