use Rattle.std.proofs.Common.{arith}
use Rattle.watch_desk.proofs.Steps.{change_next, changes_end}
use Rattle.watch_desk.proofs.watched.changes.Goals as goal

pub loop-i-preserved : goal.loop-i-preserved
loop-i-preserved c =
    change_next c.args.last.now c.args.now.now c.loop-i.i c.index-now-i.result c.loop-i.changed.items c.push.new.self.items c.differs.result _
    c.loop-i-test.true c.index-now-i.is c.differs.ensures c.in_ok-push.ensures.items c.loop-i.invariant

pub returns-clause-changes : goal.returns-clause-changes
returns-clause-changes c = changes_end c.args.last.now c.args.now.now c.loop-i.i c.loop-i.changed.items _ (let past = c.loop-i-test.false in omega arith) c.loop-i.invariant
