use Rattle.std.proofs.Common.{refl}
use Rattle.watch_desk.specs.Prefixes.{prefixes_of}
use Rattle.carousel_shell.proofs.Choosing.{plain_keeps}
use Rattle.carousel_shell.proofs.top.run_any.Goals as goal

pub play_generated-requires-clause-least : goal.play_generated-requires-clause-least
play_generated-requires-clause-least g c κs within = (rw c.in-Big.is at c.requires.sized).0

pub play_generated-requires-clause-most : goal.play_generated-requires-clause-most
play_generated-requires-clause-most g c κs within = (rw c.in-Big.is at c.requires.sized).1

pub returns-in-Session-clause-keeps : goal.returns-in-Session-clause-keeps
returns-in-Session-clause-keeps g c = rw c.in-Session.is c.play_session.ensures.plays

pub returns-in-Big-clause-keeps : goal.returns-in-Big-clause-keeps
returns-in-Big-clause-keeps g c = rw c.in-Big.is (record { unread = refl; keeps = c.play_generated.ensures.plays })

pub returns-in_default-clause-keeps : goal.returns-in_default-clause-keeps
returns-in_default-clause-keeps g c =
    plain_keeps c.args.weigh.weights (prefixes_of c.args.filters.items) c.args.command _ _ _ _ _ _ _ c.in_default.not-Session c.in_default.not-Big c.run_command.ensures.promises
