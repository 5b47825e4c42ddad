use Rattle.psi_tables.proofs.Usual.{nowhere_else}
use Rattle.psi_tables.proofs.laws.it_is_nowhere_else.Goals as goal

pub returns : goal.returns
returns c = nowhere_else
