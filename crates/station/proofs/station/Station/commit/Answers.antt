use Rattle.std.proofs.Common.{rules, ◌≡◌, ℕ, false, subst}
use Rattle.generation_catalogue.specs.History.{CatalogueState, is_entered, outcome_of}
use Rattle.generation_catalogue.specs.Calls.{IsCommitted}
use Rattle.history_lock.specs.Passes.{number_of}
use Rattle.history_lock.specs.declared.pass.Pass.{Pass}
use Rattle.station.specs.declared.kept.Kept.{Kept}
use Rattle.station.specs.declared.kept.KeptItem.{KeptItem}
use Rattle.station.specs.Passes.{carousel_of, weights_of, seen_by}
use Rattle.station.specs.Calls.{InOneHold, IfAnswered}
use Rattle.station.proofs.Calling.{committed_grows, grows_from, one_hold, still_pass}
use Rattle.station.proofs.Ending.{committed_ends, committed_full}
use Rattle.station.proofs.station.Station.commit.Goals as goal

pub put_back-requires-clause-grows : goal.put_back-requires-clause-grows
put_back-requires-clause-grows g c κs =
    grows_from c.hold-hold.result.value c.value.result.now c.commit-answer.new.self.journal _ c.hold-hold.ensures.taken c.value.ensures.value
    (committed_grows _ _ _ _ c.commit-answer.result c.commit-answer.ensures.call)

pub returns-clause-pass : goal.returns-clause-pass
returns-clause-pass g c =
    let known = still_pass c.args.self.now.lock c.hold-hold.result.lock.now (carousel_of c.args.self.now) (weights_of c.args.self.now) c.args.pass.now c.put_back.new.self.0 c.hold-hold.result.value c.value.result.now c.commit-answer.new.self.journal
    c.hold-hold.ensures.own.0 c.put_back.ensures.pass c.requires.1 c.hold-hold.ensures.seen c.value.ensures.value (committed_grows _ _ _ _ c.commit-answer.result c.commit-answer.ensures.call) c.put_back.ensures.seen in
    search (rules, known)

pub returns-clause-call : goal.returns-clause-call
returns-clause-call g c =
    let Call : CatalogueState → CatalogueState → Type 0 = λ x y. IsCommitted x (number_of c.args.pass.now) c.args.edits.items c.commit-answer.result y in
    let made : InOneHold (carousel_of c.args.self.now) (weights_of c.args.self.now) c.args.pass.now c.put_back.new.self.0 Call =
    one_hold (carousel_of c.args.self.now) (weights_of c.args.self.now) c.args.pass.now c.hold-hold.result.pass.now c.put_back.new.self.0 c.hold-hold.result.value c.value.result.now c.commit-answer.new.self.journal _ Call
    c.requires.1 c.hold-hold.ensures.seen c.hold-hold.ensures.places c.hold-hold.ensures.taken c.value.ensures.value c.commit-answer.ensures.history (subst (λ (e : ℕ). IsCommitted c.value.result.now.journal e c.args.edits.items c.commit-answer.result c.commit-answer.new.self.journal) c.number-editor.ensures c.commit-answer.ensures.call) c.put_back.ensures.seen c.put_back.ensures.places in
    search (rules, made)

pub returns-clause-entered : goal.returns-clause-entered
returns-clause-entered g c =
    let Call : CatalogueState → CatalogueState → Type 0 = λ x y. IsCommitted x (number_of c.args.pass.now) c.args.edits.items c.commit-answer.result y in
    let made : InOneHold (carousel_of c.args.self.now) (weights_of c.args.self.now) c.args.pass.now c.put_back.new.self.0 Call =
    one_hold (carousel_of c.args.self.now) (weights_of c.args.self.now) c.args.pass.now c.hold-hold.result.pass.now c.put_back.new.self.0 c.hold-hold.result.value c.value.result.now c.commit-answer.new.self.journal _ Call
    c.requires.1 c.hold-hold.ensures.seen c.hold-hold.ensures.places c.hold-hold.ensures.taken c.value.ensures.value c.commit-answer.ensures.history (subst (λ (e : ℕ). IsCommitted c.value.result.now.journal e c.args.edits.items c.commit-answer.result c.commit-answer.new.self.journal) c.number-editor.ensures c.commit-answer.ensures.call) c.put_back.ensures.seen c.put_back.ensures.places in
    let last = committed_ends (carousel_of c.args.self.now) (weights_of c.args.self.now) c.args.pass.now c.put_back.new.self.0 (number_of c.args.pass.now) c.args.edits.items c.commit-answer.result made in
    search (rules, last)

pub returns-clause-full : goal.returns-clause-full
returns-clause-full g c =
    let Call : CatalogueState → CatalogueState → Type 0 = λ x y. IsCommitted x (number_of c.args.pass.now) c.args.edits.items c.commit-answer.result y in
    let made : InOneHold (carousel_of c.args.self.now) (weights_of c.args.self.now) c.args.pass.now c.put_back.new.self.0 Call =
    one_hold (carousel_of c.args.self.now) (weights_of c.args.self.now) c.args.pass.now c.hold-hold.result.pass.now c.put_back.new.self.0 c.hold-hold.result.value c.value.result.now c.commit-answer.new.self.journal _ Call
    c.requires.1 c.hold-hold.ensures.seen c.hold-hold.ensures.places c.hold-hold.ensures.taken c.value.ensures.value c.commit-answer.ensures.history (subst (λ (e : ℕ). IsCommitted c.value.result.now.journal e c.args.edits.items c.commit-answer.result c.commit-answer.new.self.journal) c.number-editor.ensures c.commit-answer.ensures.call) c.put_back.ensures.seen c.put_back.ensures.places in
    let true_of = committed_full (carousel_of c.args.self.now) (weights_of c.args.self.now) c.args.pass.now c.put_back.new.self.0 (number_of c.args.pass.now) c.args.edits.items c.commit-answer.result made in
    subst (λ (x : Pass Kept KeptItem). IfAnswered c.commit-answer.result (λ o. is_entered o ≡ false → outcome_of (seen_by c.args.self.now x) c.args.edits.items ≡ o)) {x = c.put_back.new.self.0} {y = c.pass-1.given.0} (search rules) true_of
