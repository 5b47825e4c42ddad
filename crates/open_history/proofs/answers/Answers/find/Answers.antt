use Rattle.std.proofs.Common.{ap, sym, subst}
use Rattle.open_history.specs.Inner.Cached.{AreAnswersOn}
use Rattle.open_history.proofs.Keeping.{still_kept, found_is, if_shared}
use Rattle.open_history.proofs.answers.Answers.find.Goals as goal

pub returns-in_err-answer-clause-kept : goal.returns-in_err-answer-clause-kept
returns-in_err-answer-clause-kept c = λ held h. subst (AreAnswersOn held) (sym (ap (λ l. l.entries) c.get.follows.holds-at-none)) (still_kept _ held c.args.self.now.kept.entries h)

pub returns-clause-found : goal.returns-clause-found
returns-clause-found c = λ held path h parsed.
    if_shared held path c.in_ok-answer.answer.now c.share.result c.ok.result c.ok.ensures.value c.share.ensures.same
    (found_is held path c.args.text.now c.args.self.now.kept.entries c.in_ok-answer.answer.now h parsed (sym c.in_ok-answer.ensures.value))

pub returns-clause-kept : goal.returns-clause-kept
returns-clause-kept c = λ held h. subst (AreAnswersOn held) (sym (ap (λ l. l.entries) c.get.follows.holds-at-none)) (still_kept _ held c.args.self.now.kept.entries h)
