use Rattle.std.proofs.Common.{◌∙◌}
use Rattle.reception_report.proofs.module_lines.module_line.Goals as goal

pub returns : goal.returns
returns c = rw (c.from.ensures, c.from-2.ensures, c.from-3.ensures, c.from-4.ensures ∙ c.count_there.ensures, c.from-5.ensures ∙ c.block_count.ensures.count, c.as_str.ensures.value ∙ c.in_ok-there.ensures) at c.numbers_line.ensures
