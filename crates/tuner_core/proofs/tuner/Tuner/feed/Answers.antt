use Rattle.std.proofs.Common.{sym, subst, ◌≡◌, ◌≢◌, ◌↔◌, ◌++◌, ◌∷◌, []}
use Rattle.tuner_core.specs.declared.told.Fed.TheVariants.{Changed}
use Rattle.tuner_core.specs.Heard.{as_heard}
use Rattle.tuner_core.specs.Stands.{StandsFor, with_next_mark}
use Rattle.tuner_core.proofs.Answering.{looks_back}
use Rattle.tuner_core.proofs.Stepping.{shown_by, stands_then}
use Rattle.tuner_core.proofs.tuner.Tuner.feed.Goals as goal

pub returns-clause-nothing : goal.returns-clause-nothing
returns-clause-nothing c =
    subst (λ x. (c.in_ok-fed.fed ≢ Changed) ↔ (x ≡ with_next_mark c.args.self.now)) (sym c.count.ensures)
    (shown_by c.args.self.now c.take.new.self c.in_ok-fed.fed (as_heard c.args.candidate.now) c.in_ok-fed.ensures.answer c.in_ok-fed.ensures.changed)

pub returns-clause-stands : goal.returns-clause-stands
returns-clause-stands c = λ candidates s.
    subst (λ x. StandsFor x (candidates ++ c.args.candidate.now ∷ [])) (sym c.count.ensures)
    (stands_then c.args.self.now c.take.new.self c.in_ok-fed.fed c.args.candidate.now c.in_ok-fed.ensures.answer candidates s)

pub returns-clause-looks_back : goal.returns-clause-looks_back
returns-clause-looks_back c = looks_back c.args.self.now c.take.new.self c.in_ok-fed.fed c.args.candidate.now c.in_ok-fed.ensures.answer
