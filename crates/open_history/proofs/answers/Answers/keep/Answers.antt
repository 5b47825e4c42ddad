use Rattle.std.proofs.Common.{◌∙◌}
use Rattle.open_history.proofs.Keeping.{put_keeps}
use Rattle.open_history.proofs.answers.Answers.keep.Goals as goal

pub returns-clause-kept : goal.returns-clause-kept
returns-clause-kept c = λ held path h parsed right.
    put_keeps held path c.args.text c.in-Ok.answer c.args.self.now.kept c.put.new.self c.put.result c.put.ensures.entries c.put.ensures.err h parsed (c.in-Ok.ensures.same ∙ right)
