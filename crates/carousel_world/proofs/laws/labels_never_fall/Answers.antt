use Rattle.carousel_world.proofs.Forward.{never_fall}
use Rattle.carousel_world.proofs.laws.labels_never_fall.Goals as goal

pub returns : goal.returns
returns c = never_fall c.candidates_grow.ensures
