use Rattle.reception_report.proofs.lines.gateway_line.Goals as goal

pub returns-in-Some : goal.returns-in-Some
returns-in-Some c = rw c.in-Some.is c.located.ensures
