use Rattle.std.proofs.Common.{◌≡◌, Some, slice_get, ap}
use Rattle.shot_board.specs.Viewers.{known_of}
use Rattle.open_history.proofs.Growing.{answered_on, kept_on}
use Rattle.open_history.proofs.Keeping.{turned, kept_in}
use Rattle.open_history.proofs.pass.ReaderPass.look.Goals as goal

pub invariant_of-self : goal.invariant_of-self
invariant_of-self c =
    let before = known_of c.self.inside.viewer in
    let after = known_of c.look.new.self in
    let grown = c.look.ensures.knew in
    (answered_on before after c.self.inside.opens.items grown c.self.invariant.0, c.self.invariant.1, kept_on before after c.self.inside.answers.on c.self.inside.answers.kept.entries grown c.self.invariant.2)

pub invariant_of-self-2 : goal.invariant_of-self-2
invariant_of-self-2 c =
    let before = known_of c.self.inside.viewer in
    let after = known_of c.look.new.self in
    let grown = c.look.ensures.knew in
    let old = c.self.inside.answers in
    let new = c.turn_to.new.self in
    let shot = c.last.result.now in
    let at : slice_get after shot.number ≡ Some shot = c.last.ensures.last.1 in
    let were = kept_on before after old.on old.kept.entries grown c.self.invariant.2 in
    let all = turned after old.on shot.number shot old.kept.entries new.kept.entries were at (λ e. ap (λ k. k.entries) (c.turn_to.ensures.same e)) c.turn_to.ensures.other in
    (answered_on before after c.self.inside.opens.items grown c.self.invariant.0, c.self.invariant.1, kept_in after shot.number new.on shot new.kept.entries at c.turn_to.ensures.on all)
