use Rattle.std.proofs.Common.{None, lit≤}
use Rattle.module_groups.specs.declared.TheConstants.{GREATEST_ID}
use Rattle.module_packer.proofs.Passing.{settling_first, settling_next, settling_stops, settling_all}
use Rattle.module_packer.proofs.keeping.numbers.Goals as goal

pub loop-size-init : goal.loop-size-init
loop-size-init c = λ f tells. settling_first GREATEST_ID f c.args.filling.now.sums c.in_ok-modules.modules.items c.args.others.now (lit≤ tt) c.in_ok-modules.ensures.items tells

pub settle-requires : goal.settle-requires
settle-requires c = c.requires c.loop-size.size-index (0, None) c.loop-size-test.true

pub returns-in_default : goal.returns-in_default
returns-in_default c = λ f tells.
    settling_stops GREATEST_ID f c.loop-size.filling.sums c.loop-size.modules.items c.args.others.now c.loop-size.size-index c.loop-size-test.true c.in_default.ensures.number (c.loop-size.invariant f tells)

pub loop-size-preserved : goal.loop-size-preserved
loop-size-preserved c = λ f tells.
    settling_next GREATEST_ID f c.loop-size.filling.sums c.settle.new.self.sums c.loop-size.modules.items c.push.new.self.items c.args.others.now c.loop-size.size-index c.in-Some.module
    c.loop-size-test.true c.in-Some.ensures.number c.in-Some.ensures.after c.in_ok-push.ensures.items (c.loop-size.invariant f tells)

pub returns : goal.returns
returns c = λ f tells.
    settling_all GREATEST_ID f c.loop-size.filling.sums c.loop-size.modules.items c.args.others.now c.loop-size.size-index c.loop-size-test.false (c.loop-size.invariant f tells)
