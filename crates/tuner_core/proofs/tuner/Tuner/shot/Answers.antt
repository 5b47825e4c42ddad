use Rattle.std.proofs.Common.{◌∙◌, ap}
use Rattle.path_resolver.specs.Shots.{view}
use Rattle.tuner_core.proofs.Showing.{shot_is}
use Rattle.tuner_core.proofs.tuner.Tuner.shot.Goals as goal

pub returns-clause-held : goal.returns-clause-held
returns-clause-held c = λ candidates s.
    ap view (c.in_ok-shared.ensures.ok) ∙ c.in_ok-shot.ensures.state ∙ shot_is c.args.number c.args.draws c.args.self.now candidates s
