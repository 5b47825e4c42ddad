-- The status of a line on what is wrong with the words.
use Rattle.shell_words.specs.declared.places.Complaint.{Complaint}
use Rattle.shell_words.specs.declared.places.Complaint.TheVariants as complaints
use Rattle.receiver_commands.specs.declared.status.Status.{Status}
use Rattle.receiver_commands.specs.declared.status.Status.TheVariants as status

-- the status where the line was written
abbrev pub why_status : Complaint → Status
why_status complaints.Fits = status.NotAll
why_status _ = status.Done
