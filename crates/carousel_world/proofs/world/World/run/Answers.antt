use Rattle.std.proofs.Common.{map}
use Rattle.carousel_world.specs.Events.{view}
use Rattle.carousel_world.specs.View.{kept_in}
use Rattle.carousel_world.proofs.Happening.{headline_of}
use Rattle.carousel_world.proofs.world.World.run.Goals as goal

pub returns-in-Ok-clause-headline : goal.returns-in-Ok-clause-headline
returns-in-Ok-clause-headline g c = headline_of (kept_in c.args.self.now) (kept_in c.run_all.new.self) (map view c.args.events.items) c.keeps_the_headline.ensures c.in-Ok.ensures.stands
