use Rattle.std.proofs.Common.{arith}
use Rattle.std.proofs.lemmas.Grind.{common_steps}
use Rattle.std.proofs.lemmas.List.{length-map}
use Rattle.path_resolver.specs.Resolving.{answer_of}
use Rattle.watch_desk.proofs.Agreeing.{as_many}
use Rattle.watch_desk.proofs.desk.Desk.turn_to.Goals as goal

pub notify_all-requires-clause-changed : goal.notify_all-requires-clause-changed
notify_all-requires-clause-changed g c =
    let flags = as_many c.args.self.now.watched.last c.deref.result.now in
    let answers = length-map c.args.self.now.watched.paths (answer_of (g.H.Holding.state c.args.held.now)) in
    grind (arith, common_steps, flags, answers)
