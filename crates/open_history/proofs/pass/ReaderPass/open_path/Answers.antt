use Rattle.std.proofs.Common.{◌≡◌, ◌+◌, [], ◌∷◌, ◌++◌, Some, slice_get, ap, sym, subst, ◌∙◌, arith, inr}
use Rattle.shot_board.specs.Viewers.{known_of}
use Rattle.path_resolver.specs.Resolving.{answer_of}
use Rattle.path_resolver.specs.Shots.{held_of}
use Rattle.open_history.specs.Opens.{Answered, AllAnswered}
use Rattle.open_history.proofs.Growing.{answered_on, answered_push, kept_on}
use Rattle.open_history.proofs.Keeping.{turned, kept_in}
use Rattle.open_history.proofs.pass.ReaderPass.open_path.Goals as goal

pub invariant_of-self : goal.invariant_of-self
invariant_of-self c =
    let before = known_of c.self.inside.viewer in
    let after = known_of c.look.new.self in
    let grown = c.look.ensures.knew in
    (answered_on before after c.self.inside.opens.items grown c.self.invariant.0, c.self.invariant.1, kept_on before after c.self.inside.answers.on c.self.inside.answers.kept.entries grown c.self.invariant.2)

pub answer-requires : goal.answer-requires
answer-requires c =
    let after = known_of c.look.new.self in
    let old = c.self.inside.answers in
    let new = c.turn_to.new.self in
    let shot = c.last-shot.result.now in
    let at : slice_get after shot.number ≡ Some shot = c.last-shot.ensures.last.1 in
    let were = kept_on (known_of c.self.inside.viewer) after old.on old.kept.entries c.look.ensures.knew c.self.invariant.2 in
    turned after old.on shot.number shot old.kept.entries new.kept.entries were at (λ e. ap (λ k. k.entries) (c.turn_to.ensures.same e)) c.turn_to.ensures.other

pub invariant_of-self-in_default-answer : goal.invariant_of-self-in_default-answer
invariant_of-self-in_default-answer c =
    let before = known_of c.self.inside.viewer in
    let after = known_of c.look.new.self in
    let shot = c.last-shot.result.now in
    let at : slice_get after shot.number ≡ Some shot = c.last-shot.ensures.last.1 in (
      answered_on before after c.self.inside.opens.items c.look.ensures.knew c.self.invariant.0,
      c.self.invariant.1,
      kept_in after shot.number c.answer.new.self.on shot c.answer.new.self.kept.entries at (c.answer.ensures.on ∙ c.turn_to.ensures.on) c.answer.ensures.kept,
    )

pub returns-in_default-answer-clause-memory : goal.returns-in_default-answer-clause-memory
returns-in_default-answer-clause-memory c = inr (c.last-shot.result.now, c.last-shot.ensures.last, c.in_default-answer.ensures.memory)

answered : (c : goal.After-push_reserved) → Answered (known_of c.look.new.self) c.on.result
answered c =
    let after = known_of c.look.new.self in
    let shot = c.last-shot.result.now in (
      shot,
      ap (slice_get after) c.on.ensures.shot.0 ∙ c.last-shot.ensures.last.1,
      sym c.on.ensures.shot.0,
      c.on.ensures.shot.1,
      c.on.ensures.shot.2,
      c.on.ensures.answer.1 ∙ (c.in-Ok-answer.ensures.answer ∙ ap (answer_of (held_of shot)) (sym c.on.ensures.answer.0)),
    )

pub invariant_of-self-2 : goal.invariant_of-self-2
invariant_of-self-2 c =
    let before = known_of c.self.inside.viewer in
    let after = known_of c.look.new.self in
    let opens = c.self.inside.opens.items in
    let shot = c.last-shot.result.now in
    let at : slice_get after shot.number ≡ Some shot = c.last-shot.ensures.last.1 in (
      subst (AllAnswered after) (sym c.push_reserved.ensures.items) (answered_push after opens c.on.result (answered_on before after opens c.look.ensures.knew c.self.invariant.0) (answered c)),
      (let cap = c.push_reserved.ensures.capacity in let room = c.self.invariant.1 in omega arith),
      kept_in after shot.number c.answer.new.self.on shot c.answer.new.self.kept.entries at (c.answer.ensures.on ∙ c.turn_to.ensures.on) c.answer.ensures.kept,
    )

pub returns-clause-open : goal.returns-clause-open
returns-clause-open c = (
  c.on.result,
  c.push_reserved.ensures.items ∙ ap (λ v. v.opens ++ c.on.result ∷ []) c.self.view_is,
  c.on.ensures.answer.0,
  ap (λ n. n + 1) c.on.ensures.shot.0 ∙ sym c.last-shot.ensures.last.0,
  answered c,
)
