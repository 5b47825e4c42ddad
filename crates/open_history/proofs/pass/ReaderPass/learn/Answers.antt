use Rattle.shot_board.specs.Viewers.{known_of}
use Rattle.shot_board.proofs.CallerLemmas.{same_begins}
use Rattle.open_history.proofs.Growing.{answered_on, kept_on}
use Rattle.open_history.proofs.pass.ReaderPass.learn.Goals as goal

pub invariant_of-self : goal.invariant_of-self
invariant_of-self c =
    let before = known_of c.self.inside.viewer in
    let after = known_of c.learn.new.self in
    let grown = same_begins before after c.learn.ensures.known in
    (answered_on before after c.self.inside.opens.items grown c.self.invariant.0, c.self.invariant.1, kept_on before after c.self.inside.answers.on c.self.inside.answers.kept.entries grown c.self.invariant.2)
