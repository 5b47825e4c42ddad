-- What holds of what the code keeps of a module.
use Rattle.std.specs.Prelude.{◌≡◌, ℕ, length}
use Rattle.ddb_block.specs.Blocks.{block_count_of}
use Rattle.block_assembler.specs.Blocks.{AssemblerState, IsAssembled}
use Rattle.module_cache.specs.declared.stored.State.{State}
use Rattle.module_cache.specs.declared.stored.State.TheVariants as states
use Rattle.module_cache.specs.declared.stored.Stored.TheInside.{Inside}

-- an assembler of this module, with a place for each block
pub record IsShaped (size block_size : ℕ) (a : AssemblerState) : Type 0 where
  pub same_size : a.size ≡ size
  pub same_block_size : a.block_size ≡ block_size
  pub places : length a.blocks ≡ block_count_of size block_size

abbrev pub IsState : ℕ → ℕ → State → Type 0
IsState size block_size states.Packed = Unit {0}
IsState size block_size states.Empty = Unit {0}
IsState size block_size (states.Part a) = IsShaped size block_size a
IsState size block_size (states.Whole m) = Unit {0}

pub record IsStored (s : Inside) : Type 0 where
  pub sizes : IsAssembled s.size s.block_size
  pub state : IsState s.size s.block_size s.state
