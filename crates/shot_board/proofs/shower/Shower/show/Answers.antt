use Rattle.std.proofs.Common.{ap}
use Rattle.shot_board.proofs.shower.Shower.show.Goals as goal

pub returns-then-sent-clause-published : goal.returns-then-sent-clause-published
returns-then-sent-clause-published g c = λ w is. ap (λ s. s.log) (c.sent.new.self.ready (c.sent.ensures.yes c.if-sent.true).1 w is).0
