-- Statuses of what private functions answer.
use Rattle.std.specs.Prelude.{Bool, true, false, Result, Ok, Err}
use Rattle.shell_streams.specs.declared.output.OutputFault.{OutputFault}
use Rattle.receiver_commands.specs.declared.status.Status.{Status}
use Rattle.receiver_commands.specs.declared.status.Status.TheVariants as status
use Rattle.receiver_commands.specs.Statuses.{output_status}

-- of answers that were written, each a file or a folder or not, or a fault
abbrev pub answer_status : Result Bool OutputFault → Status
answer_status (Ok true) = status.Done
answer_status (Ok false) = status.NotAll
answer_status (Err fault) = output_status fault

-- of a command that was done, or stopped with a status
abbrev pub end_status : Result (Unit {0}) Status → Status
end_status (Ok done) = status.Done
end_status (Err s) = s
