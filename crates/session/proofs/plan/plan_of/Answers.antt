use Rattle.session.proofs.Words.{refl, before_in_range, during_in_range, none_pending, waiting_below}
use Rattle.session.proofs.plan.plan_of.Goals as goal

pub happenings-requires : goal.happenings-requires
happenings-requires c = before_in_range c.args.parts.before.items c.args.parts.during.items c.args.parts.settle c.args.parts.finales.items c.requires.lines

pub work_of-requires : goal.work_of-requires
work_of-requires c = during_in_range c.args.parts.before.items c.args.parts.during.items c.args.parts.settle c.args.parts.finales.items c.requires.lines

pub returns : goal.returns
returns c = record {
  editors = refl;
  readers = refl;
  before = c.in_ok-before.ensures.happen none_pending c.new-interpreter.ensures;
  range = c.in_ok-before.ensures.range;
  work = c.in_ok-work.ensures (waiting_below none_pending c.args.parts.before.items) (c.in_ok-before.ensures.waits none_pending c.new-interpreter.ensures);
  settles = c.is_some.ensures;
  finales = c.in_ok-finales.ensures;
}
