use Rattle.std.proofs.Common.{arith}
use Rattle.std.specs.String.{string_bytes}
use Rattle.reception_report.proofs.Parts.{field_more}
use Rattle.reception_report.proofs.lines.push_numbers.Goals as goal

pub loop-row-preserved : goal.loop-row-preserved
loop-row-preserved c =
    field_more c.args.numbers.now (λ n. n.0.now) (λ n. n.1) (string_bytes c.args.text.now) c.loop-row.row-index _ _ _ (omega arith) c.loop-row.invariant c.in_ok-push_number.ensures
