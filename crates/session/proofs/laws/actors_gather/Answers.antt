use Rattle.session.proofs.Gathered.{actors}
use Rattle.session.proofs.laws.actors_gather.Goals as goal

pub returns : goal.returns
returns c = actors c.histories_grow.ensures
