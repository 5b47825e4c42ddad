-- The status of a playout.
use Rattle.std.specs.Prelude.{Result, Ok, Err}
use Rattle.folder_playout.specs.declared.reading.Unread.{Unread}
use Rattle.folder_playout.specs.declared.reading.Unread.TheVariants as unread
use Rattle.folder_playout.specs.declared.playing.AirFault.{AirFault}
use Rattle.folder_playout.specs.declared.playing.AirFault.TheVariants as airs
use Rattle.receiver_commands.specs.Statuses.{output_status}
use Rattle.receiver_commands.specs.declared.status.Status.{Status}
use Rattle.receiver_commands.specs.declared.status.Status.TheVariants as status
use Rattle.shell_commands.specs.Air.{season_full}

abbrev pub unread_status : Unread → Status
unread_status (unread.Failed path) = status.FolderFault
unread_status (unread.Refused fault path) = status.TreeRefused fault
unread_status unread.NoMemory = status.NoMemory

abbrev pub fault_status : AirFault → Status
fault_status (airs.Unread fault) = unread_status fault
fault_status airs.SeasonFull = status.TreeRefused season_full
fault_status (airs.Output fault) = output_status fault

abbrev pub air_status : Result (Unit {0}) AirFault → Status
air_status (Ok done) = status.Done
air_status (Err fault) = fault_status fault
