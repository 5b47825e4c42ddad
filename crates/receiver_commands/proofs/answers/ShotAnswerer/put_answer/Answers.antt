use Rattle.std.proofs.Common.{◌∙◌, sym, ap}
use Rattle.std.proofs.lemmas.Result.{err_from_is_err_and, IfOk-weaker}
use Rattle.shell_words.specs.Texts.{is_found}
use Rattle.shell_streams.proofs.CallerLemmas.{puts_none}
use Rattle.receiver_commands.specs.Open.{AllAnswers}
use Rattle.receiver_commands.proofs.Entries.{entry_as}
use Rattle.receiver_commands.proofs.answers.ShotAnswerer.put_answer.Goals as goal

pub returns-in_err-answer-clause-puts : goal.returns-in_err-answer-clause-puts
returns-in_err-answer-clause-puts g c =
    let p = err_from_is_err_and c.from_residual.result c.from_residual.ensures.1 in
    rw (p.1, p.2) (λ answer h. puts_none _ _)

pub returns-clause-found : goal.returns-clause-found
returns-clause-found g c = IfOk-weaker c.put_entry.result _ _
    (λ found e answer h. e ∙ ap is_found (c.in_ok-answer.ensures.answer ∙ sym (ap (λ (a : AllAnswers). a c.args.path.now) h))) c.put_entry.ensures.found

pub returns-clause-puts : goal.returns-clause-puts
returns-clause-puts g c = λ answer h. entry_as c.args.path.now (c.in_ok-answer.ensures.answer ∙ sym (ap (λ (a : AllAnswers). a c.args.path.now) h)) c.put_entry.ensures.puts
