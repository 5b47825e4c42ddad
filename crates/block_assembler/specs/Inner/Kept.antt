-- What holds of what the code keeps of a module, and what one block more makes of its bytes.
use Rattle.std.specs.Prelude.{◌≡◌, ℕ, ◌+◌, ◌-◌, ◌*◌, ◌≤◌, min, Bool, true, false, not, List, ◌++◌, length, take, drop, replicate, get_or, vec_capacity}
use Rattle.std.specs.List.{count_by}
use Rattle.ddb_block.specs.Blocks.{block_count_of}
use Rattle.block_assembler.specs.Blocks.{Bytes, IsAssembled}
use Rattle.block_assembler.specs.declared.kept.Assembler.TheInside.{Inside}
use Rattle.block_assembler.specs.declared.kept.Emptied.TheInside.{Inside as EmptiedInside}

-- the bytes with a block from place `start` on, and zeros for those before it that didn't come
abbrev pub written : ℕ → Bytes → Bytes → Bytes
written start block bytes = take start bytes ++ replicate (start - length bytes) 0 ++ block ++ drop (start + length block) bytes

-- the bytes reach to the end of each block that is marked, which for the last is the module's size
abbrev pub Reach : ℕ → ℕ → Bytes → List Bool → Type 0
Reach size block_size bytes ts = (b : ℕ) → get_or ts b false ≡ true → min size (b * block_size + block_size) ≤ length bytes

-- The buffer has room for the module, and its bytes, at most the module's size, reach as far as any block that is there.
-- There is a mark for each block, and the counter counts the marks that are unset.
pub record IsKept (a : Inside) : Type 0 where
  pub sizes : IsAssembled a.size a.block_size
  pub room : a.size ≤ vec_capacity a.bytes
  pub bytes : length a.bytes.items ≤ a.size
  pub reach : Reach a.size a.block_size a.bytes.items a.there.items
  pub marks : length a.there.items ≡ block_count_of a.size a.block_size
  pub missing : a.missing ≡ count_by not a.there.items

-- each block has a mark, which is set
pub record IsEmptied (e : EmptiedInside) : Type 0 where
  pub sizes : IsAssembled e.size e.block_size
  pub marks : length e.there.items ≡ block_count_of e.size e.block_size
  pub all : count_by not e.there.items ≡ 0
