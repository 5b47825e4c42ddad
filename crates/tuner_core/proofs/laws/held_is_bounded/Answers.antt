use Rattle.tuner_core.proofs.Bounded.{held_bounded}
use Rattle.tuner_core.proofs.laws.held_is_bounded.Goals as goal

pub returns : goal.returns
returns c = held_bounded
