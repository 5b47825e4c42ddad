use Rattle.session.proofs.Words.{Err, sym, ap, ◌∙◌, subst}
use Rattle.session.proofs.Closing.{IsAnswered, one_commit_more, would_be_entered}
use Rattle.session.proofs.editor.commit.Goals as goal

pub returns-in-Ok-clause-commits : goal.returns-in-Ok-clause-commits
returns-in-Ok-clause-commits g c =
    one_commit_more c.args.station.now c.args.pass.now c.commit.new.pass c.args.edits.items c.commit.result (subst IsAnswered (sym c.in-Ok.is) tt)
    c.commit.ensures.pass c.commit.ensures.number c.commit.ensures.call

pub returns-in-Err-Refused-clause-commits : goal.returns-in-Err-Refused-clause-commits
returns-in-Err-Refused-clause-commits g c = one_commit_more c.args.station.now c.args.pass.now c.commit.new.pass c.args.edits.items c.commit.result
    (subst IsAnswered (sym (c.in-Err-Refused.is ∙ ap Err c.in-Err-Refused.field-0-is)) tt)
    c.commit.ensures.pass c.commit.ensures.number c.commit.ensures.call

pub returns-clause-memory : goal.returns-clause-memory
returns-clause-memory g c =
    would_be_entered c.args.station.now c.args.pass.now c.commit.new.pass c.args.edits.items c.commit.result (c.in-Err-NoMemory.is ∙ ap Err c.in-Err-NoMemory.field-0-is) c.commit.ensures.call
