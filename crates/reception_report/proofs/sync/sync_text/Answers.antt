use Rattle.std.proofs.Common.{rules, append_assoc}
use Rattle.reception_report.proofs.sync.sync_text.Goals as goal

pub returns-in-At : goal.returns-in-At
returns-in-At c = rw c.in-At.is (search (rules, append_assoc))
