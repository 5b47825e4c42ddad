use Rattle.mount_table.proofs.Cutting.{same_cuts}
use Rattle.mount_table.proofs.laws.one_pid_decides.Goals as goal

pub returns : goal.returns
returns c = same_cuts
