use Rattle.std.proofs.Common.{refl}
use Rattle.reception_report.proofs.Parts.{field_next}
use Rattle.reception_report.proofs.lines.push_home.Goals as goal

pub returns-in_ok-push_number : goal.returns-in_ok-push_number
returns-in_ok-push_number c = rw c.in-Some.is (field_next _ _ _ _ _ _ c.in_ok-push_number.ensures c.from.ensures refl)
