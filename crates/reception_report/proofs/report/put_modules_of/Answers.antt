use Rattle.std.proofs.Common.{arith, sym}
use Rattle.std.proofs.lemmas.Result.{err_from_is_err_and}
use Rattle.shell_streams.proofs.CallerLemmas.{puts_as}
use Rattle.reception_report.specs.Inner.Telling.{modules_of}
use Rattle.reception_report.proofs.Parts.{no_parts, part_put, part_stops, all_parts}
use Rattle.reception_report.proofs.Rows.{rows_in}
use Rattle.reception_report.proofs.report.put_modules_of.Goals as goal

pub loop-tuned-init : goal.loop-tuned-init
loop-tuned-init g c = no_parts (modules_of c.args.id) c.args.held.now _

pub returns-in_err-put_lines : goal.returns-in_err-put_lines
returns-in_err-put_lines g c =
    let p = err_from_is_err_and c.from_residual.result c.from_residual.ensures.1 in
    rw (p.1, p.2) (puts_as (sym (rows_in c.args.id c.args.held.now))
    (part_stops (modules_of c.args.id) c.args.held.now c.loop-tuned.tuned-index c.tuned-item.result _ _ _ (omega arith) c.tuned-item.is c.loop-tuned.invariant (rw c.lines.ensures at c.in_err-put_lines.ensures)))

pub loop-tuned-preserved : goal.loop-tuned-preserved
loop-tuned-preserved g c = part_put (modules_of c.args.id) c.args.held.now c.loop-tuned.tuned-index c.tuned-item.result _ _ _ (omega arith) c.tuned-item.is c.loop-tuned.invariant
    (rw c.lines.ensures at c.in_ok-put_lines.ensures)

pub returns : goal.returns
returns g c = puts_as (sym (rows_in c.args.id c.args.held.now)) (all_parts _ (modules_of c.args.id) c.args.held.now c.loop-tuned.tuned-index _ _ (omega arith) c.loop-tuned.invariant)
