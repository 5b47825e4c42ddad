use Rattle.session.proofs.Session.{played}
use Rattle.session.proofs.laws.played_is_a_session.Goals as goal

pub returns : goal.returns
returns c = played c.merges_are_runs.ensures c.histories_grow.ensures c.settling_is_whole.ensures.whole c.settling_is_whole.ensures.opens
