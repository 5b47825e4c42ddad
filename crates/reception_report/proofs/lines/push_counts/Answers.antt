use Rattle.std.proofs.Common.{◌<◌, length, arith}
use Rattle.std.specs.String.{string_bytes}
use Rattle.reception_report.specs.Telling.{count_text}
use Rattle.reception_report.proofs.Parts.{text_none, text_more, text_all, get_any}
use Rattle.reception_report.proofs.lines.push_counts.Goals as goal

pub loop-outcome-init : goal.loop-outcome-init
loop-outcome-init c = λ cs counts. text_none (count_text cs) c.args.outcomes.now (string_bytes c.args.text.now)

pub loop-outcome-preserved : goal.loop-outcome-preserved
loop-outcome-preserved c = λ cs counts.
    let within : c.loop-outcome.outcome-index < length c.args.outcomes.now = omega arith in
    text_more (count_text cs) c.args.outcomes.now c.loop-outcome.outcome-index _ _ _ _ within (get_any c.args.outcomes.now c.loop-outcome.outcome-index _ _ within) (c.loop-outcome.invariant cs counts) (c.in_ok-push_count.ensures cs counts)

pub returns : goal.returns
returns c = λ cs counts. text_all (count_text cs) c.args.outcomes.now c.loop-outcome.outcome-index _ _ (omega arith) (c.loop-outcome.invariant cs counts)
