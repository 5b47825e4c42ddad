use Rattle.psi_tables.proofs.Early.{each_is_followed}
use Rattle.psi_tables.proofs.laws.each_listed_pid_is_followed.Goals as goal

pub returns : goal.returns
returns c = each_is_followed c.candidates_grow.ensures
