-- One module as it is gathered out of sections.
use Rattle.std.specs.Prelude.{◌≡◌, List}
use Rattle.block_assembler.specs.Blocks.{AssemblerState}
use Rattle.shell_streams.specs.Cuts.{Bytes}
use Rattle.receiver_commands.specs.Input.{Asked, blocks_among}
use Rattle.receiver_commands.specs.declared.assemble.TheConstants.{ASSEMBLED_BLOCK}

-- the assembler has the first fitting blocks of these sections
pub record HasBlocks (m : Asked) (a : AssemblerState) (sections : List Bytes) : Type 0 where
  pub size : a.size ≡ m.size
  pub block_size : a.block_size ≡ ASSEMBLED_BLOCK
  pub blocks : a.blocks ≡ blocks_among m sections
