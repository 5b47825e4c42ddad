use Rattle.std.proofs.Common.{refl, ap}
use Rattle.carousel_world.specs.Events.{view}
use Rattle.carousel_world.specs.View.{kept_in}
use Rattle.carousel_world.proofs.Happening.{opened, open_asks}
use Rattle.carousel_world.proofs.world.World.step.Goals as goal

pub returns-in-Open-clause-reply : goal.returns-in-Open-clause-reply
returns-in-Open-clause-reply g c = opened c.open.result (kept_in c.args.self.now) c.in-Open.path c.in-Open.path (view c.args.event) c.in-Open.reader (ap view c.in-Open.is) refl c.open.ensures.reply

pub returns-in-Open-clause-memory : goal.returns-in-Open-clause-memory
returns-in-Open-clause-memory g c = open_asks c.open.result (kept_in c.args.self.now) c.in-Open.path c.in-Open.path (view c.args.event) c.in-Open.reader (ap view c.in-Open.is) refl c.open.ensures.memory
