use Rattle.std.proofs.Common.{ap, length, ◌∙◌}
use Rattle.std.specs.String.{string_bytes}
use Rattle.reception_report.proofs.Parts.{line_alone}
use Rattle.reception_report.proofs.lines.dii_line.Goals as goal

pub returns : goal.returns
returns c = line_alone string_bytes _ _
    (rw (c.from.ensures ∙ c.identification.ensures, c.from-2.ensures ∙ c.version.ensures.version, c.from-3.ensures ∙ c.download.ensures, c.from-4.ensures ∙ c.block_size.ensures, ap length c.lines.ensures)
    at c.numbers_line.ensures)
