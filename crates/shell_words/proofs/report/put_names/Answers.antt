use Rattle.std.proofs.Common.{◌≤◌, ◌+◌, length, arith, ap}
use Rattle.std.specs.List.{flat_map}
use Rattle.std.proofs.lemmas.Result.{err_from_is_err_and}
use Rattle.std.proofs.lemmas.List.{take_all}
use Rattle.shell_streams.proofs.CallerLemmas.{puts_nothing, puts_then, puts_stop, puts_as}
use Rattle.shell_words.specs.Reports.{spaced_name}
use Rattle.shell_words.proofs.Parts.{parts_more, parts_all}
use Rattle.shell_words.proofs.report.put_names.Goals as goal

pub loop-i-init : goal.loop-i-init
loop-i-init g c = puts_nothing tt _

pub returns-in_err-put_name : goal.returns-in_err-put_name
returns-in_err-put_name g c =
    let p = err_from_is_err_and c.from_residual.result c.from_residual.ensures.1 in
    rw (p.1, p.2) (puts_as (parts_all spaced_name c.args.folder.now (c.loop-i.i + 1)) (puts_stop _
    (puts_as (parts_more spaced_name c.args.folder.now c.loop-i.i c.name.result.now c.name.ensures) (puts_then c.loop-i.invariant c.in_err-put_name.ensures))))

pub loop-i-preserved : goal.loop-i-preserved
loop-i-preserved g c =
    puts_as (parts_more spaced_name c.args.folder.now c.loop-i.i c.name.result.now c.name.ensures) (puts_then c.loop-i.invariant c.in_ok-put_name.ensures)

pub returns : goal.returns
returns g c =
    let all : length c.args.folder.now ≤ c.loop-i.i = omega (arith, c.count-i-end.ensures, c.loop-i-test.false) in
    puts_as (ap (flat_map spaced_name) (take_all c.loop-i.i c.args.folder.now all)) c.loop-i.invariant
