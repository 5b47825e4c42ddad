use Rattle.std.proofs.Common.{rules, append_assoc}
use Rattle.reception_report.proofs.lines.label_line.Goals as goal

pub returns-in-Some : goal.returns-in-Some
returns-in-Some c = rw c.in-Some.is (search (rules, append_assoc))
