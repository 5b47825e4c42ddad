use Rattle.std.proofs.Common.{◌≤◌, ◌+◌, length, ap, arith}
use Rattle.std.specs.List.{flat_map}
use Rattle.std.proofs.lemmas.Result.{err_from_is_err_and}
use Rattle.std.proofs.lemmas.List.{take_all}
use Rattle.path_resolver.specs.Resolving.{answer_of}
use Rattle.path_resolver.specs.Shots.{held_of}
use Rattle.shell_streams.proofs.CallerLemmas.{puts_nothing, puts_then, puts_stop, puts_as}
use Rattle.receiver_commands.specs.Watch.{notice_line}
use Rattle.receiver_commands.proofs.Parts.{parts_at, parts_all}
use Rattle.receiver_commands.proofs.watch.put_notices.Goals as goal

pub loop-notice-init : goal.loop-notice-init
loop-notice-init g c = puts_nothing tt _

pub returns-in_err-put_notice : goal.returns-in_err-put_notice
returns-in_err-put_notice g c =
    let p = err_from_is_err_and c.from_residual.result c.from_residual.ensures.1 in
    let i = c.loop-notice.notice-index in
    let line = notice_line c.args.paths.now c.args.shot.now.mark (answer_of (held_of c.args.shot.now)) in
    rw (p.1, p.2) (puts_as (parts_all line c.args.notices.now (i + 1)) (puts_stop _
    (puts_as (parts_at line c.args.notices.now i _ c.loop-notice-test.true) (puts_then c.loop-notice.invariant c.in_err-put_notice.ensures))))

pub loop-notice-preserved : goal.loop-notice-preserved
loop-notice-preserved g c =
    let line = notice_line c.args.paths.now c.args.shot.now.mark (answer_of (held_of c.args.shot.now)) in
    puts_as (parts_at line c.args.notices.now c.loop-notice.notice-index _ c.loop-notice-test.true) (puts_then c.loop-notice.invariant c.in_ok-put_notice.ensures)

pub returns : goal.returns
returns g c =
    let line = notice_line c.args.paths.now c.args.shot.now.mark (answer_of (held_of c.args.shot.now)) in
    let all : length c.args.notices.now ≤ c.loop-notice.notice-index = omega (arith, c.loop-notice-test.false) in
    puts_as (ap (flat_map line) (take_all c.loop-notice.notice-index c.args.notices.now all)) c.loop-notice.invariant
