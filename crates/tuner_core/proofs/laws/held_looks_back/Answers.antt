use Rattle.tuner_core.proofs.Stepping.{all_looks_back}
use Rattle.tuner_core.proofs.laws.held_looks_back.Goals as goal

pub returns : goal.returns
returns c = all_looks_back
