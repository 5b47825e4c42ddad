use Rattle.std.specs.String.{string_bytes}
use Rattle.reception_report.proofs.Parts.{line_alone}
use Rattle.reception_report.proofs.lines.counts_line.Goals as goal

pub returns : goal.returns
returns c = line_alone string_bytes _ _ c.numbers_line.ensures
