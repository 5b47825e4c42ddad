use Rattle.std.proofs.Common.{arith, sym}
use Rattle.std.proofs.lemmas.Result.{err_from_is_err_and}
use Rattle.shell_streams.proofs.CallerLemmas.{puts_as}
use Rattle.reception_report.specs.Inner.Telling.{module_if}
use Rattle.reception_report.proofs.Parts.{no_parts, part_put, part_stops, all_parts}
use Rattle.reception_report.proofs.Rows.{rows_of}
use Rattle.reception_report.proofs.report.put_lines.Goals as goal

pub loop-line-init : goal.loop-line-init
loop-line-init g c = no_parts (module_if c.args.id) c.args.lines.now _

pub returns-in_err-put_module : goal.returns-in_err-put_module
returns-in_err-put_module g c =
    let p = err_from_is_err_and c.from_residual.result c.from_residual.ensures.1 in
    rw (p.1, p.2) (puts_as (sym (rows_of c.args.id c.args.lines.now))
    (part_stops (module_if c.args.id) c.args.lines.now c.loop-line.line-index c.line-item.result _ _ _ (omega arith) c.line-item.is c.loop-line.invariant c.in_err-put_module.ensures))

pub loop-line-preserved : goal.loop-line-preserved
loop-line-preserved g c = part_put (module_if c.args.id) c.args.lines.now c.loop-line.line-index c.line-item.result _ _ _ (omega arith) c.line-item.is c.loop-line.invariant c.in_ok-put_module.ensures

pub returns : goal.returns
returns g c = puts_as (sym (rows_of c.args.id c.args.lines.now)) (all_parts _ (module_if c.args.id) c.args.lines.now c.loop-line.line-index _ _ (omega arith) c.loop-line.invariant)
