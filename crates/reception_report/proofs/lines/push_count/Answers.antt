use Rattle.std.proofs.Common.{◌∙◌}
use Rattle.reception_report.proofs.Tallying.{told_count}
use Rattle.reception_report.proofs.lines.push_count.Goals as goal

pub returns : goal.returns
returns c = λ cs counts.
    told_count cs c.args.outcome _ _ _ _ _ c.in_ok-push_str.ensures.bytes c.name.ensures c.in_ok-push_number.ensures (c.number.ensures ∙ counts.each c.args.outcome)
