use Rattle.session.proofs.Grown.{grows}
use Rattle.session.proofs.laws.gathers_grow.Goals as goal

pub returns : goal.returns
returns c = grows
