-- The status of a plan.
use Rattle.std.specs.Prelude.{Result, Ok, Err}
use Rattle.publication_plan.specs.declared.planning.PlanEnd.{PlanEnd}
use Rattle.publication_plan.specs.declared.planning.PlanEnd.TheVariants as planned
use Rattle.shell_streams.specs.declared.output.OutputFault.{OutputFault}
use Rattle.receiver_commands.specs.Statuses.{output_status}
use Rattle.receiver_commands.specs.declared.status.Status.{Status}
use Rattle.receiver_commands.specs.declared.status.Status.TheVariants as status

abbrev pub plan_status : Result PlanEnd OutputFault → Status
plan_status (Ok planned.Published) = status.Done
plan_status (Ok planned.Refused) = status.NotAll
plan_status (Ok planned.Unreadable) = status.FolderFault
plan_status (Err fault) = output_status fault
