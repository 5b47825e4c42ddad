use Rattle.carousel_world.specs.View.{kept_in}
use Rattle.carousel_world.proofs.Promised.{kept_headline}
use Rattle.carousel_world.proofs.world.World.keeps_the_headline.Goals as goal

pub returns : goal.returns
returns g c = kept_headline c.every_run_meets_the_headline.ensures (kept_in c.args.self.now) c.entries.ensures.history
