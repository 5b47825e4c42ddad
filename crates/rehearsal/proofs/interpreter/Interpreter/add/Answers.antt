use Rattle.rehearsal.proofs.Adding.{added}
use Rattle.rehearsal.proofs.interpreter.Interpreter.add.Goals as goal

pub returns : goal.returns
returns c = λ p held.
    added p c.args.editor c.args.edit c.take-edits.new.self.waiting c.insert.new.self c.take-edits.result _ (c.take-edits.ensures.edits p held) (c.take-edits.ensures.left p held) c.in_ok-push.ensures.items c.in_ok-insert.ensures.updates
