use Rattle.std.proofs.Common.{◌∙◌}
use Rattle.biop_object.proofs.Finding.{stands_first}
use Rattle.biop_object.proofs.module.stands_first.Goals as goal

pub returns : goal.returns
returns c = c.eq.ensures ∙ stands_first c.args.bindings.now c.args.i c.index-items-i.result c.first.result c.requires (rw c.items.ensures at c.index-items-i.is) (rw c.label.ensures at c.first.ensures.first)
