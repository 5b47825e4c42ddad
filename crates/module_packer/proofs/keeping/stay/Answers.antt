use Rattle.std.proofs.Common.{None}
use Rattle.module_groups.specs.declared.TheConstants.{GREATEST_ID}
use Rattle.module_packer.proofs.Passing.{staying_first, staying_next, staying_passed, staying_filled}
use Rattle.module_packer.proofs.keeping.stay.Goals as goal

pub loop-size-init : goal.loop-size-init
loop-size-init c = λ f tells. staying_first GREATEST_ID f c.args.filling.now.sums c.in_ok-stayed.stayed.items c.args.objects.now c.in_ok-stayed.ensures.items tells

pub keep-module-requires : goal.keep-module-requires
keep-module-requires c = c.requires c.loop-size.size-index (0, None) c.loop-size-test.true

pub loop-size-preserved : goal.loop-size-preserved
loop-size-preserved c = λ f tells.
    staying_next GREATEST_ID f c.loop-size.filling.sums c.keep-module.new.self.sums c.loop-size.stayed.items c.push.new.self.items c.args.objects.now c.loop-size.size-index c.keep-module.result
    c.loop-size-test.true c.keep-module.ensures.answer c.keep-module.ensures.after c.in_ok-push.ensures.items (c.loop-size.invariant f tells)

pub returns-clause-passed : goal.returns-clause-passed
returns-clause-passed c = λ f tells.
    staying_passed GREATEST_ID f c.loop-size.filling.sums c.loop-size.stayed.items c.args.objects.now c.loop-size.size-index c.loop-size-test.false (c.loop-size.invariant f tells)

pub returns-clause-filled : goal.returns-clause-filled
returns-clause-filled c = λ f tells.
    staying_filled GREATEST_ID f c.loop-size.filling.sums c.loop-size.stayed.items c.args.objects.now c.loop-size.size-index c.loop-size-test.false (c.loop-size.invariant f tells)
