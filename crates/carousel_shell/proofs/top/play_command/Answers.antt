use Rattle.std.proofs.Common.{refl}
use Rattle.carousel_shell.proofs.Choosing.{others_decline}
use Rattle.carousel_shell.proofs.top.play_command.Goals as goal

pub play_generated-requires-clause-least : goal.play_generated-requires-clause-least
play_generated-requires-clause-least g c κs within = (rw c.in-Big.is at c.requires.sized).0

pub play_generated-requires-clause-most : goal.play_generated-requires-clause-most
play_generated-requires-clause-most g c κs within = (rw c.in-Big.is at c.requires.sized).1

pub returns-in-Session-clause-promises : goal.returns-in-Session-clause-promises
returns-in-Session-clause-promises g c = rw c.in-Session.is c.play_session.ensures.plays

pub returns-in-Big-clause-promises : goal.returns-in-Big-clause-promises
returns-in-Big-clause-promises g c = rw c.in-Big.is (record { unread = refl; keeps = c.play_generated.ensures.plays })

pub returns-in_default-clause-promises : goal.returns-in_default-clause-promises
returns-in_default-clause-promises g c = others_decline c.args.weigh.weights c.args.command.now _ _ c.in_default.not-Session c.in_default.not-Big refl refl
