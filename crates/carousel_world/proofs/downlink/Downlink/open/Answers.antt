use Rattle.std.proofs.Common.{IsTrue, ap, subst, ◌∙◌}
use Rattle.std.proofs.lemmas.Result.{err_from_is_err_and}
use Rattle.section_stream.specs.Cuts.{candidates}
use Rattle.path_resolver.specs.Resolving.{answer_of, is_shared}
use Rattle.path_resolver.specs.declared.answer.Answer.{Answer}
use Rattle.tuner_core.specs.Stands.{TunerState, held_by}
use Rattle.tuner_core.proofs.CallerLemmas.{answer_is}
use Rattle.carousel_world.specs.DownView.{DownlinkState}
use Rattle.carousel_world.proofs.downlink.Downlink.open.Goals as goal

pub returns-in_err-answer-clause-memory : goal.returns-in_err-answer-clause-memory
returns-in_err-answer-clause-memory c =
    let p = err_from_is_err_and c.from_residual.result c.from_residual.ensures.1 in
    let tuner = ap (λ (d : DownlinkState). d.tuner) c.self.view_is in
    rw p.1 (λ pid groups begun packets s. subst (λ (a : Answer). IsTrue (is_shared a))
    (ap (λ (t : TunerState). answer_of (held_by t) c.args.path.now) tuner ∙ answer_is c.args.self.now.tuner (candidates pid packets) c.args.path.now s.tuner)
    c.in_err-answer.ensures.memory)
