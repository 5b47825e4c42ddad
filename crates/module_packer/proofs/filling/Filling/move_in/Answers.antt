use Rattle.module_groups.specs.declared.TheConstants.{GREATEST_ID}
use Rattle.module_packer.proofs.Telling.{moved_has, moved_after}
use Rattle.module_packer.proofs.filling.Filling.move_in.Goals as goal

pub put-requires-clause-fits : goal.put-requires-clause-fits
put-requires-clause-fits c = (moved_has c.args.size c.in-Some.number c.args.self.now.sums c.ranges.size.fits c.in-Some.ensures).2

pub returns-in-Some-clause-after : goal.returns-in-Some-clause-after
returns-in-Some-clause-after c = λ f tells.
    moved_after GREATEST_ID c.args.self.now.sums c.put.new.self.sums f c.args.size c.in-Some.number c.ranges.size.fits c.in-Some.ensures c.put.ensures tells
