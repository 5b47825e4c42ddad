use Rattle.history_merge.proofs.Merged.{places}
use Rattle.history_merge.proofs.laws.opens_have_places.Goals as goal

pub returns : goal.returns
returns c = places
