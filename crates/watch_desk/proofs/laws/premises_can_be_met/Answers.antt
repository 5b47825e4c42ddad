use Rattle.watch_desk.proofs.Rows.{premises_met}
use Rattle.watch_desk.proofs.laws.premises_can_be_met.Goals as goal

pub returns : goal.returns
returns c = premises_met
