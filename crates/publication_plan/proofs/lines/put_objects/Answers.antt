use Rattle.std.proofs.Common.{◌∙◌}
use Rattle.publication_plan.proofs.lines.put_objects.Goals as goal

pub returns : goal.returns
returns c = rw (c.tree.ensures, c.deref.ensures.value ∙ c.in_ok-objects.ensures) at c.put_entries.ensures
