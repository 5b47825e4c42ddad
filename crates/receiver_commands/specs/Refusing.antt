-- Words that are refused: nothing is read or written.
use Rattle.std.specs.Prelude.{◌≡◌, ◌⊎◌}
use Rattle.shell_streams.specs.Cuts.{Bytes}
use Rattle.receiver_commands.specs.Over.{Over, IsUntouched}
use Rattle.receiver_commands.specs.declared.status.Status.{Status}
use Rattle.receiver_commands.specs.declared.status.Status.TheVariants as status

pub record Declines (s : Status) (source sink : Over Bytes) : Type 0 where
  pub ends : (s ≡ status.Words) ⊎ (s ≡ status.NoMemory)
  pub unread : IsUntouched source
  pub unwritten : IsUntouched sink
