use Rattle.tuner_core.proofs.Cutting.{spans_are}
use Rattle.tuner_core.proofs.laws.spans_are_of_the_list.Goals as goal

pub returns : goal.returns
returns c = spans_are
