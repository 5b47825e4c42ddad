-- The status of a report that was written.
use Rattle.std.specs.Prelude.{Option, Some, None, Result, Ok, Err}
use Rattle.reception_report.specs.declared.sync.SyncPlace.{SyncPlace}
use Rattle.shell_streams.specs.declared.output.OutputFault.{OutputFault}
use Rattle.receiver_commands.specs.Statuses.{output_status}
use Rattle.receiver_commands.specs.declared.status.Status.{Status}
use Rattle.receiver_commands.specs.declared.status.Status.TheVariants as status

abbrev pub sync_status : Option SyncPlace → Status
sync_status None = status.Done
sync_status (Some place) = status.NotPackets place

abbrev pub report_status : Option SyncPlace → Result (Unit {0}) OutputFault → Status
report_status sync (Ok done) = sync_status sync
report_status sync (Err fault) = output_status fault
