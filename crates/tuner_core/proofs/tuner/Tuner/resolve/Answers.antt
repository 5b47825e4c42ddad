use Rattle.std.proofs.Common.{◌∙◌}
use Rattle.std.proofs.lemmas.Result.{IfOk-weaker}
use Rattle.tuner_core.proofs.Showing.{answer_is}
use Rattle.tuner_core.proofs.tuner.Tuner.resolve.Goals as goal

pub returns-clause-looks_back : goal.returns-clause-looks_back
returns-clause-looks_back c = IfOk-weaker c.answer_on.result _ _ (λ a is candidates s. is ∙ answer_is c.args.self.now candidates c.args.path.now s) c.answer_on.ensures.answer
