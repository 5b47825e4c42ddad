use Rattle.module_groups.specs.declared.TheConstants.{GREATEST_ID}
use Rattle.module_packer.proofs.Telling.{settled_number}
use Rattle.module_packer.proofs.filling.Filling.settle.Goals as goal

pub returns-in-None-clause-number : goal.returns-in-None-clause-number
returns-in-None-clause-number c = λ f tells.
    settled_number GREATEST_ID c.args.self.now.sums f c.args.size c.args.stays c.move_in.result c.ranges.size.fits c.in-None.is c.move_in.ensures.answer tells
