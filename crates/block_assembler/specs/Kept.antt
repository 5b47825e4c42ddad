-- What the code keeps, as blocks.
use Rattle.std.specs.Prelude.{ℕ, ◌+◌, Bool, List, [], ◌∷◌, Option, Some, None, cond}
use Rattle.ddb_block.specs.Blocks.{block_of}
use Rattle.block_assembler.specs.Blocks.{AssemblerState, EmptiedState, Bytes}
use Rattle.block_assembler.specs.declared.kept.Assembler.TheInside.{Inside}
use Rattle.block_assembler.specs.declared.kept.Emptied.TheInside.{Inside as EmptiedInside}

-- the blocks from number b on that are marked as there, out of the module's bytes as far as they came
abbrev pub blocks_from : Bytes → ℕ → ℕ → List Bool → List (Option Bytes)
blocks_from bytes block_size b [] = []
blocks_from bytes block_size b (t ∷ ts) = cond t (Some (block_of bytes block_size b)) None ∷ blocks_from bytes block_size (b + 1) ts

abbrev pub view_assembler : Inside → AssemblerState
view_assembler a = record { size = a.size; block_size = a.block_size; blocks = blocks_from a.bytes.items a.block_size 0 a.there.items }

abbrev pub view_emptied : EmptiedInside → EmptiedState
view_emptied e = record { size = e.size; block_size = e.block_size }
