use Rattle.std.proofs.Common.{rules, append_assoc}
use Rattle.publication_plan.proofs.lines.two_fields.Goals as goal

pub returns : goal.returns
returns c = search (rules, append_assoc)
