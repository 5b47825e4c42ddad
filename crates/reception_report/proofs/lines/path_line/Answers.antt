use Rattle.reception_report.proofs.lines.path_line.Goals as goal

pub returns : goal.returns
returns c = rw (c.as_str.ensures.value, c.in_ok-place.ensures.text, c.as_str-2.ensures.value, c.in_ok-answer-2.ensures, c.in_ok-answer.ensures.answer, c.home_of.ensures) at c.path_text.ensures
