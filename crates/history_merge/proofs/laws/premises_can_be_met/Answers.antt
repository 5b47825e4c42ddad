use Rattle.history_merge.proofs.Witness.{ready}
use Rattle.history_merge.proofs.laws.premises_can_be_met.Goals as goal

pub returns : goal.returns
returns c = ready c.premises_can_be_met.ensures.run
