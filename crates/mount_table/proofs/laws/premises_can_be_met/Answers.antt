use Rattle.mount_table.proofs.Rows.{premises_met}
use Rattle.mount_table.proofs.laws.premises_can_be_met.Goals as goal

pub returns : goal.returns
returns c = premises_met
