use Rattle.generation_catalogue.proofs.Growing.{histories_grow}
use Rattle.generation_catalogue.proofs.laws.histories_grow.Goals as goal

pub returns : goal.returns
returns c = histories_grow
