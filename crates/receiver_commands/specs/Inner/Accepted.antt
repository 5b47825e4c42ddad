-- What is written of one section.
use Rattle.std.specs.Prelude.{[], if◌then◌else◌}
use Rattle.shell_streams.specs.Cuts.{Bytes}
use Rattle.receiver_commands.specs.Accepted.{is_accepted}

abbrev pub accepted_one : Bytes → Bytes
accepted_one candidate = if is_accepted candidate then candidate else []
