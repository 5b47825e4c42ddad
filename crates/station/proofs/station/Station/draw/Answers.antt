use Rattle.std.proofs.Common.{rules, ◌≡◌, ◌≤◌, sym, ap, ◌∙◌, subst}
use Rattle.history_lock.specs.Passes.{seen_of}
use Rattle.generation_catalogue.specs.History.{CatalogueState, draws_of}
use Rattle.generation_catalogue.specs.Calls.{IsDrawn}
use Rattle.history_lock.specs.declared.pass.Pass.{Pass}
use Rattle.station.specs.declared.kept.Kept.{Kept}
use Rattle.station.specs.declared.kept.KeptItem.{KeptItem}
use Rattle.station.specs.Passes.{carousel_of, weights_of, seen_by}
use Rattle.station.specs.Calls.{InOneHold, IfFull}
use Rattle.station.proofs.Calling.{same_weights, drawn_grows, grows_from, one_hold, still_pass}
use Rattle.station.proofs.Ending.{drawn_ends, drawn_full}
use Rattle.station.proofs.station.Station.draw.Goals as goal

pub put_back-requires-clause-grows : goal.put_back-requires-clause-grows
put_back-requires-clause-grows g c κs =
    grows_from c.hold-hold.result.value c.value.result.now c.draw-answer.new.self.journal _ c.hold-hold.ensures.taken c.value.ensures.value
    (drawn_grows _ _ _ c.draw-answer.result c.draw-answer.ensures.call)

pub draw-answer-requires-clause-weights : goal.draw-answer-requires-clause-weights
draw-answer-requires-clause-weights g c =
    sym (same_weights (carousel_of c.args.self.now) (weights_of c.args.self.now) c.hold-hold.result.value.journal (seen_of c.args.pass.now) c.requires.pass.1 c.hold-hold.ensures.seen)
    ∙ ap (λ (k : Kept). k.journal.weights) (sym c.value.ensures.value)

pub returns-clause-pass : goal.returns-clause-pass
returns-clause-pass g c =
    let known = still_pass c.args.self.now.lock c.hold-hold.result.lock.now (carousel_of c.args.self.now) (weights_of c.args.self.now) c.args.pass.now c.put_back.new.self.0 c.hold-hold.result.value c.value.result.now c.draw-answer.new.self.journal
    c.hold-hold.ensures.own.0 c.put_back.ensures.pass c.requires.pass.1 c.hold-hold.ensures.seen c.value.ensures.value (drawn_grows _ _ _ c.draw-answer.result c.draw-answer.ensures.call) c.put_back.ensures.seen in
    search (rules, known)

pub returns-clause-call : goal.returns-clause-call
returns-clause-call g c =
    let Call : CatalogueState → CatalogueState → Type 0 = λ x y. IsDrawn x c.args.n c.draw-answer.result y in
    let made : InOneHold (carousel_of c.args.self.now) (weights_of c.args.self.now) c.args.pass.now c.put_back.new.self.0 Call =
    one_hold (carousel_of c.args.self.now) (weights_of c.args.self.now) c.args.pass.now c.hold-hold.result.pass.now c.put_back.new.self.0 c.hold-hold.result.value c.value.result.now c.draw-answer.new.self.journal _ Call
    c.requires.pass.1 c.hold-hold.ensures.seen c.hold-hold.ensures.places c.hold-hold.ensures.taken c.value.ensures.value c.draw-answer.ensures.history c.draw-answer.ensures.call c.put_back.ensures.seen c.put_back.ensures.places in
    search (rules, made)

pub returns-clause-entered : goal.returns-clause-entered
returns-clause-entered g c =
    let Call : CatalogueState → CatalogueState → Type 0 = λ x y. IsDrawn x c.args.n c.draw-answer.result y in
    let made : InOneHold (carousel_of c.args.self.now) (weights_of c.args.self.now) c.args.pass.now c.put_back.new.self.0 Call =
    one_hold (carousel_of c.args.self.now) (weights_of c.args.self.now) c.args.pass.now c.hold-hold.result.pass.now c.put_back.new.self.0 c.hold-hold.result.value c.value.result.now c.draw-answer.new.self.journal _ Call
    c.requires.pass.1 c.hold-hold.ensures.seen c.hold-hold.ensures.places c.hold-hold.ensures.taken c.value.ensures.value c.draw-answer.ensures.history c.draw-answer.ensures.call c.put_back.ensures.seen c.put_back.ensures.places in
    let last = drawn_ends (carousel_of c.args.self.now) (weights_of c.args.self.now) c.args.pass.now c.put_back.new.self.0 c.args.n c.draw-answer.result made in
    search (rules, last)

pub returns-clause-full : goal.returns-clause-full
returns-clause-full g c =
    let Call : CatalogueState → CatalogueState → Type 0 = λ x y. IsDrawn x c.args.n c.draw-answer.result y in
    let made : InOneHold (carousel_of c.args.self.now) (weights_of c.args.self.now) c.args.pass.now c.put_back.new.self.0 Call =
    one_hold (carousel_of c.args.self.now) (weights_of c.args.self.now) c.args.pass.now c.hold-hold.result.pass.now c.put_back.new.self.0 c.hold-hold.result.value c.value.result.now c.draw-answer.new.self.journal _ Call
    c.requires.pass.1 c.hold-hold.ensures.seen c.hold-hold.ensures.places c.hold-hold.ensures.taken c.value.ensures.value c.draw-answer.ensures.history c.draw-answer.ensures.call c.put_back.ensures.seen c.put_back.ensures.places in
    let true_of = drawn_full (carousel_of c.args.self.now) (weights_of c.args.self.now) c.args.pass.now c.put_back.new.self.0 c.args.n c.draw-answer.result made in
    subst (λ (x : Pass Kept KeptItem). IfFull c.draw-answer.result (λ m. (m ≡ 16777216) × (16777216 ≤ draws_of (seen_by c.args.self.now x)))) {x = c.put_back.new.self.0} {y = c.pass-1.given.0} (search rules) true_of
