-- What `record PID` promises: the sections of one PID that read are written, unchanged and in order,
-- as the packets are read.
use Rattle.std.specs.Prelude.{ℕ}
use Rattle.shell_streams.specs.Cuts.{Bytes}
use Rattle.receiver_commands.specs.Over.{Over}
use Rattle.receiver_commands.specs.Accepted.{accepted_bytes}
use Rattle.receiver_commands.specs.AsRead.{WritesAsRead}
use Rattle.receiver_commands.specs.declared.status.Status.{Status}

abbrev pub Records : ℕ → Status → Over Bytes → Over Bytes → Type 0
Records pid = WritesAsRead pid accepted_bytes
