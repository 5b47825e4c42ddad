use Rattle.std.proofs.Common.{refl}
use Rattle.reception_report.proofs.Parts.{text_next}
use Rattle.reception_report.proofs.lines.numbers_line.Goals as goal

pub returns : goal.returns
returns c = text_next _ _ _ _ _ c.in_ok-push_str-2.ensures.bytes refl
    (text_next _ _ _ _ _ c.in_ok-push_str.ensures.bytes refl (rw c.new-text.ensures.bytes at c.in_ok-push_numbers.ensures))
