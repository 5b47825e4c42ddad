-- The status of an extraction.
use Rattle.std.specs.Prelude.{Result, Ok, Err}
use Rattle.folder_extract.specs.declared.extracting.Extracted.{Extracted}
use Rattle.folder_extract.specs.declared.extracting.Extracted.TheVariants as ended
use Rattle.shell_streams.specs.declared.output.OutputFault.{OutputFault}
use Rattle.receiver_commands.specs.Statuses.{output_status}
use Rattle.receiver_commands.specs.declared.status.Status.{Status}
use Rattle.receiver_commands.specs.declared.status.Status.TheVariants as status

abbrev pub extract_status : Result Extracted OutputFault → Status
extract_status (Ok ended.All) = status.Done
extract_status (Ok ended.NotAll) = status.NotAll
extract_status (Ok ended.Failed) = status.FolderFault
extract_status (Err fault) = output_status fault
