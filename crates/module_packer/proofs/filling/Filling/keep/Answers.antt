use Rattle.std.proofs.Common.{sym, ◌∙◌}
use Rattle.module_groups.specs.declared.TheConstants.{GREATEST_ID}
use Rattle.module_packer.proofs.Telling.{kept_answer, kept_after}
use Rattle.module_packer.proofs.filling.Filling.keep.Goals as goal

pub returns-in-Some-clause-answer : goal.returns-in-Some-clause-answer
returns-in-Some-clause-answer c = λ f tells.
    let has = c.requires c.in-Some.number c.in-Some.is in
    kept_answer GREATEST_ID c.args.self.now.sums f c.args.size c.args.old c.in-Some.number c.in-Some.is (sym c.stays.ensures ∙ c.if-stays.true) has.0 has.1 tells

pub returns-in-Some-clause-after : goal.returns-in-Some-clause-after
returns-in-Some-clause-after c = λ f tells.
    let has = c.requires c.in-Some.number c.in-Some.is in
    kept_after GREATEST_ID c.args.self.now.sums c.put.new.self.sums f c.args.size c.args.old c.in-Some.number c.in-Some.is (sym c.stays.ensures ∙ c.if-stays.true) has.0 has.1 c.put.ensures tells
