use Rattle.std.proofs.Common.{sym, ap, ◌∙◌}
use Rattle.mount_table.specs.Stands.{MountsState}
use Rattle.mount_table.proofs.Opening.{named_in, opened_nowhere, opened_at, under_one}
use Rattle.mount_table.proofs.mounts.Mounts.open_path.Goals as goal

pub returns-in_err-answer-in-Some-clause-memory : goal.returns-in_err-answer-in-Some-clause-memory
returns-in_err-answer-in-Some-clause-memory c = λ e f.
    let same = c.deref.ensures.value ∙ ap (λ (m : MountsState). m.receivers) c.self.view_is in
    under_one c.args.self.now.receivers c.args.path.now c.name.result.now c.in-Some.receiver.now c.name.ensures (ap (named_in c.name.result.now) (sym same) ∙ sym c.in-Some.ensures)

pub returns-in_ok-answer-in-Some-clause-answer : goal.returns-in_ok-answer-in-Some-clause-answer
returns-in_ok-answer-in-Some-clause-answer c = λ packets s.
    let same = c.deref.ensures.value ∙ ap (λ (m : MountsState). m.receivers) c.self.view_is in
    opened_at c.args.self.now.receivers c.args.path.now c.name.result.now c.in-Some.receiver.now c.in_ok-answer-in-Some.answer c.name.ensures
    (ap (named_in c.name.result.now) (sym same) ∙ sym c.in-Some.ensures) c.in_ok-answer-in-Some.ensures packets s.receivers

pub returns-in-None-clause-answer : goal.returns-in-None-clause-answer
returns-in-None-clause-answer c = λ packets s.
    let same = c.deref.ensures.value ∙ ap (λ (m : MountsState). m.receivers) c.self.view_is in
    opened_nowhere c.args.self.now.receivers c.args.path.now c.name.result.now c.name.ensures (ap (named_in c.name.result.now) (sym same) ∙ sym c.in-None.ensures) packets
