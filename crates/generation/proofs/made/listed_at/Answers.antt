use Rattle.std.proofs.Common.{ap, Some, refl}
use Rattle.generation.proofs.Members.{used_in}
use Rattle.generation.proofs.made.listed_at.Goals as goal

pub returns-clause-listed : goal.returns-clause-listed
returns-clause-listed c = rw (used_in c.args.id c.args.objects.now c.in_module.result.now c.in_module.ensures, ← c.is_empty.ensures, c.if-is_empty.false) (ap Some c.in_ok-listed.ensures.listed)

pub returns-then-is_empty-clause-listed : goal.returns-then-is_empty-clause-listed
returns-then-is_empty-clause-listed c = rw (used_in c.args.id c.args.objects.now c.in_module.result.now c.in_module.ensures, ← c.is_empty.ensures, c.if-is_empty.true) refl
