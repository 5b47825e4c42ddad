use Rattle.session.proofs.Words.{on_ok_weaker}
use Rattle.session.proofs.Planning.{split_commit, split_draw, split_open}
use Rattle.session.proofs.plan.Work.give.Goals as goal

pub returns-in-Commit : goal.returns-in-Commit
returns-in-Commit c = on_ok_weaker c.push.result (λ given done h. split_commit c.args.self.now done h c.args.what (record { lines = c.saturating_add-lines.result; edits = c.in-Commit.edits }) c.in-Commit.editor
    c.remove.new.self c.push.new.self c.in-Commit.is given) c.push.ensures

pub returns-in_ok-push-in-Draw : goal.returns-in_ok-push-in-Draw
returns-in_ok-push-in-Draw c = λ done h. split_draw c.args.self.now done h c.args.what (record { asked = c.in-Draw.asked; fates = c.in-Draw.fates }) c.push-in-Draw.new.self c.in-Draw.is c.requires
    c.in_ok-push-in-Draw.ensures.items

pub returns-in-Open : goal.returns-in-Open
returns-in-Open c = on_ok_weaker c.push-in-Open.result (λ given done h. split_open c.args.self.now done h c.args.what c.in-Open.reader c.in-Open.path c.push-in-Open.new.self c.in-Open.is given) c.push-in-Open.ensures
