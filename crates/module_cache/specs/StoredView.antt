-- What the code keeps of a module.
use Rattle.std.specs.Prelude.{ℕ, None, replicate}
use Rattle.std.specs.Arc.{arc_value}
use Rattle.ddb_block.specs.Blocks.{block_count_of}
use Rattle.module_cache.specs.Contents.{Content, Packed, Blocks, Whole, StoredState}
use Rattle.module_cache.specs.declared.stored.State.{State}
use Rattle.module_cache.specs.declared.stored.State.TheVariants as states
use Rattle.module_cache.specs.declared.stored.Stored.TheInside.{Inside}

abbrev pub view_state : ℕ → ℕ → State → Content
view_state size block_size states.Packed = Packed
view_state size block_size states.Empty = Blocks (replicate (block_count_of size block_size) None)
view_state size block_size (states.Part a) = Blocks a.blocks
view_state size block_size (states.Whole m) = Whole (arc_value m)

abbrev pub view_stored : Inside → StoredState
view_stored s = record { size = s.size; block_size = s.block_size; content = view_state s.size s.block_size s.state }
