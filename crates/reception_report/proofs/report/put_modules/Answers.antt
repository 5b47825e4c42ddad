use Rattle.std.proofs.Common.{◌≡◌, ◌+◌, arith, ap, sym}
use Rattle.std.specs.List.{flat_map}
use Rattle.std.proofs.lemmas.Result.{err_from_is_err_and}
use Rattle.shell_streams.proofs.CallerLemmas.{puts_nothing, puts_then, puts_stop, puts_as}
use Rattle.reception_report.specs.Telling.{module_line, lines_below, lines_of}
use Rattle.reception_report.proofs.Rows.{below_none, below_next, below_rest}
use Rattle.reception_report.proofs.report.put_modules.Goals as goal

pub loop-id-init : goal.loop-id-init
loop-id-init g c = puts_as (sym (below_none (lines_of c.args.held.now))) (puts_nothing tt _)

pub returns-in_err-put_modules_of : goal.returns-in_err-put_modules_of
returns-in_err-put_modules_of g c =
    let p = err_from_is_err_and c.from_residual.result c.from_residual.ensures.1 in
    let rest = below_rest (lines_of c.args.held.now) (c.loop-id.id + 1) 65536 (omega arith) in
    rw (p.1, p.2) (puts_as (sym rest.1) (puts_stop rest.0 (puts_as (below_next c.loop-id.id (lines_of c.args.held.now)) (puts_then c.loop-id.invariant c.in_err-put_modules_of.ensures))))

pub loop-id-preserved : goal.loop-id-preserved
loop-id-preserved g c = puts_as (below_next c.loop-id.id (lines_of c.args.held.now)) (puts_then c.loop-id.invariant c.in_ok-put_modules_of.ensures)

pub returns : goal.returns
returns g c =
    let all : c.loop-id.id ≡ 65536 = omega arith in
    puts_as (ap (λ n. flat_map module_line (lines_below n (lines_of c.args.held.now))) all) c.loop-id.invariant
