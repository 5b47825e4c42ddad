use Rattle.rehearsal.proofs.Words.{◌≤◌, ◌<◌, ◌+◌, ◌∙◌, length, arith, ap, append-nil, flat_map, err_from_is_err_and, take_all, puts_nothing, puts_then, puts_stop, puts_as}
use Rattle.shell_words.proofs.CallerLemmas.{parts_next, parts_all}
use Rattle.rehearsal.proofs.Telling.{told_line, report_is}
use Rattle.rehearsal.proofs.report.put_report.Goals as goal

pub loop-one-init : goal.loop-one-init
loop-one-init g c = puts_nothing tt _

pub loop-one-preserved : goal.loop-one-preserved
loop-one-preserved g c = let h : c.loop-one.one-index < length c.args.told.now = omega arith in
    puts_as (parts_next told_line c.args.told.now c.loop-one.one-index c.one-item.result h c.one-item.is) (puts_then c.loop-one.invariant c.in_ok-put_told.ensures)

pub returns-in_err-put_told-clause-puts : goal.returns-in_err-put_told-clause-puts
returns-in_err-put_told-clause-puts g c = let p = err_from_is_err_and c.from_residual.result c.from_residual.ensures.1 in
    let h : c.loop-one.one-index < length c.args.told.now = omega arith in
    rw (p.1, p.2) (puts_as (parts_all told_line c.args.told.now (c.loop-one.one-index + 1) ∙ report_is c.args.told.now) (puts_stop _
    (puts_as (parts_next told_line c.args.told.now c.loop-one.one-index c.one-item.result h c.one-item.is) (puts_then c.loop-one.invariant c.in_err-put_told.ensures))))

pub returns-clause-puts : goal.returns-clause-puts
returns-clause-puts g c = let all : length c.args.told.now ≤ c.loop-one.one-index = omega arith in
    puts_as (append-nil _ ∙ ap (flat_map told_line) (take_all c.loop-one.one-index c.args.told.now all) ∙ report_is c.args.told.now) (puts_then c.loop-one.invariant c.flush.ensures.puts)
