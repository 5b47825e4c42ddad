use Rattle.psi_tables.proofs.Usual.{found_once_came}
use Rattle.psi_tables.proofs.laws.it_is_found_once_its_tables_came.Goals as goal

pub returns : goal.returns
returns c = found_once_came
