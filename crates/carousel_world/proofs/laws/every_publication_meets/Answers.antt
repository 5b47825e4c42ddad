use Rattle.carousel_world.proofs.Single.{every_publication}
use Rattle.carousel_world.proofs.laws.every_publication_meets.Goals as goal

pub returns : goal.returns
returns c = every_publication c.every_reception_meets.ensures c.layouts_are_lawful.ensures
