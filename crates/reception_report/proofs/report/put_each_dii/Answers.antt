use Rattle.std.proofs.Common.{arith}
use Rattle.std.proofs.lemmas.Result.{err_from_is_err_and}
use Rattle.reception_report.specs.Telling.{dii_line}
use Rattle.reception_report.proofs.Parts.{no_parts, part_put, part_stops, all_parts}
use Rattle.reception_report.proofs.report.put_each_dii.Goals as goal

pub loop-tuned-init : goal.loop-tuned-init
loop-tuned-init g c = no_parts dii_line c.args.held.now _

pub returns-in_err-put_dii : goal.returns-in_err-put_dii
returns-in_err-put_dii g c =
    let p = err_from_is_err_and c.from_residual.result c.from_residual.ensures.1 in
    rw (p.1, p.2) (part_stops dii_line c.args.held.now c.loop-tuned.tuned-index c.tuned-item.result _ _ _ (omega arith) c.tuned-item.is c.loop-tuned.invariant c.in_err-put_dii.ensures)

pub loop-tuned-preserved : goal.loop-tuned-preserved
loop-tuned-preserved g c = part_put dii_line c.args.held.now c.loop-tuned.tuned-index c.tuned-item.result _ _ _ (omega arith) c.tuned-item.is c.loop-tuned.invariant c.in_ok-put_dii.ensures

pub returns : goal.returns
returns g c = all_parts _ dii_line c.args.held.now c.loop-tuned.tuned-index _ _ (omega arith) c.loop-tuned.invariant
