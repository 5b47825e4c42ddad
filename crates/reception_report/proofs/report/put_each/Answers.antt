use Rattle.std.proofs.Common.{arith}
use Rattle.std.proofs.lemmas.Result.{err_from_is_err_and}
use Rattle.path_resolver.specs.Shots.{held_of}
use Rattle.reception_report.specs.Telling.{path_line}
use Rattle.reception_report.proofs.Parts.{no_parts, part_put, part_stops, all_parts}
use Rattle.reception_report.proofs.report.put_each.Goals as goal

pub loop-path-init : goal.loop-path-init
loop-path-init g c = no_parts (path_line (held_of c.args.shot.now)) c.args.paths.now _

pub returns-in_err-put_path : goal.returns-in_err-put_path
returns-in_err-put_path g c =
    let p = err_from_is_err_and c.from_residual.result c.from_residual.ensures.1 in
    rw (p.1, p.2) (part_stops (path_line (held_of c.args.shot.now)) c.args.paths.now c.loop-path.path-index c.path-item.result _ _ _ (omega arith) c.path-item.is c.loop-path.invariant c.in_err-put_path.ensures)

pub loop-path-preserved : goal.loop-path-preserved
loop-path-preserved g c = part_put (path_line (held_of c.args.shot.now)) c.args.paths.now c.loop-path.path-index c.path-item.result _ _ _ (omega arith) c.path-item.is c.loop-path.invariant c.in_ok-put_path.ensures

pub returns : goal.returns
returns g c = all_parts _ (path_line (held_of c.args.shot.now)) c.args.paths.now c.loop-path.path-index _ _ (omega arith) c.loop-path.invariant
