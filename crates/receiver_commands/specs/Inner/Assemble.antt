-- What is written of a module whose blocks were gathered.
use Rattle.std.specs.Prelude.{◌≡◌, List, Option, Some}
use Rattle.std.specs.List.{position}
use Rattle.std.specs.Option.{is_none}
use Rattle.block_assembler.specs.Blocks.{join_all}
use Rattle.shell_streams.specs.Cuts.{Bytes}
use Rattle.receiver_commands.specs.Over.{Over, Failed, IsUntouched, WritesAll, WritesPrefix}
use Rattle.receiver_commands.specs.declared.status.Status.{Status}
use Rattle.receiver_commands.specs.declared.status.Status.TheVariants as status

-- what is written of blocks that were gathered, with nothing to be read any more
abbrev pub IsModule : List (Option Bytes) → Over Bytes → Status → Type 0
IsModule blocks sink status.Done = (bytes : Bytes) × (join_all blocks ≡ Some bytes) × WritesAll sink bytes
IsModule blocks sink (status.Incomplete block) = (position is_none blocks ≡ Some block) × IsUntouched sink
IsModule blocks sink status.WriteFault = Failed sink × ((bytes : Bytes) × (join_all blocks ≡ Some bytes) × WritesPrefix sink bytes)
IsModule blocks sink status.NoMemory = (bytes : Bytes) × (join_all blocks ≡ Some bytes) × WritesPrefix sink bytes
IsModule blocks sink _ = ⊥
