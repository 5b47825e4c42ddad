-- What `assemble ID VERSION SIZE DOWNLOAD` promises: the first fitting blocks of the input's sections make the module.
use Rattle.std.specs.Prelude.{◌≡◌, ℕ, List, Some}
use Rattle.std.specs.List.{position}
use Rattle.std.specs.Option.{is_none}
use Rattle.block_assembler.specs.Blocks.{join_all}
use Rattle.shell_streams.specs.Cuts.{Bytes}
use Rattle.shell_streams.specs.Carriers.{sections_by}
use Rattle.shell_streams.specs.declared.carrier.Carrier.{Carrier}
use Rattle.shell_streams.specs.declared.carrier.Carrier.TheVariants as carriers
use Rattle.receiver_commands.specs.Over.{Over, IsUntouched, TakesPrefix, WritesAll, WritesPrefix, EndsRead}
use Rattle.receiver_commands.specs.Input.{Asked, blocks_among}
use Rattle.receiver_commands.specs.Replies.{Hears}
use Rattle.receiver_commands.specs.declared.status.Status.{Status}
use Rattle.receiver_commands.specs.declared.status.Status.TheVariants as status
use Rattle.receiver_commands.specs.declared.assemble.TheConstants.{MOST_ASSEMBLED}

-- sections back to back, at most so many
abbrev pub module_carrier : Carrier
module_carrier = carriers.Sections MOST_ASSEMBLED

-- the module was written: each block of it is there
pub record Assembled (m : Asked) (source sink : Over Bytes) : Type 0 where
  pub sections : List Bytes
  pub hears : Hears module_carrier source sections
  pub bytes : Bytes
  pub joins : join_all (blocks_among m sections) ≡ Some bytes
  pub writes : WritesAll sink bytes

-- a prefix of it was
pub record Assembling (m : Asked) (source sink : Over Bytes) : Type 0 where
  pub sections : List Bytes
  pub hears : Hears module_carrier source sections
  pub bytes : Bytes
  pub joins : join_all (blocks_among m sections) ≡ Some bytes
  pub writes : WritesPrefix sink bytes

-- this is the least number of a block that isn't there, and nothing was written
pub record Misses (m : Asked) (block : ℕ) (source sink : Over Bytes) : Type 0 where
  pub sections : List Bytes
  pub hears : Hears module_carrier source sections
  pub first : position is_none (blocks_among m sections) ≡ Some block
  pub nothing : IsUntouched sink

abbrev pub AssemblesAll : Asked → Over Bytes → Over Bytes → Status → Type 0
AssemblesAll m source sink status.Done = Assembled m source sink
AssemblesAll m source sink (status.Incomplete block) = Misses m block source sink
AssemblesAll m source sink _ = ⊥

abbrev pub EndsModule : Asked → Over Bytes → Over Bytes → Status → Type 0
EndsModule m source sink =
    EndsRead (sections_by module_carrier).goes_on (AssemblesAll m source sink)
    (IsUntouched sink) (Assembling m source sink) source sink

pub record Assembles (m : Asked) (s : Status) (source sink : Over Bytes) : Type 0 where
  pub ends : EndsModule m source sink s
  pub takes : TakesPrefix source
