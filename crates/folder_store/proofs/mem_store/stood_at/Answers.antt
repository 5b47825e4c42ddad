use Rattle.std.proofs.Common.{sym, ◌∙◌}
use Rattle.folder_store.proofs.Storing.{stood_next, stood_here, stood_end}
use Rattle.folder_store.proofs.mem_store.stood_at.Goals as goal

pub returns-then-eq : goal.returns-then-eq
returns-then-eq c = sym (c.loop-text.invariant ∙ stood_here c.args.path.now c.args.entries.now c.loop-text.text-index c.loop-text-item.result c.loop-text-test.true c.loop-text-item.is (cc))

pub loop-text-preserved : goal.loop-text-preserved
loop-text-preserved c = c.loop-text.invariant ∙ stood_next c.args.path.now c.args.entries.now c.loop-text.text-index c.loop-text-item.result c.loop-text-test.true c.loop-text-item.is (cc)

pub returns : goal.returns
returns c = sym (c.loop-text.invariant ∙ stood_end c.args.path.now c.args.entries.now c.loop-text.text-index c.loop-text-test.false)
