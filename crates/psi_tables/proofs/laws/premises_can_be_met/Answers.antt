use Rattle.psi_tables.proofs.Example.{premises_met}
use Rattle.psi_tables.proofs.laws.premises_can_be_met.Goals as goal

pub returns : goal.returns
returns c = premises_met
