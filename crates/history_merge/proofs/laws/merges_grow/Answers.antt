use Rattle.history_merge.proofs.laws.merges_grow.Goals as goal
use Rattle.history_merge.proofs.Ordering.{onwards}

pub returns : goal.returns
returns c = onwards
