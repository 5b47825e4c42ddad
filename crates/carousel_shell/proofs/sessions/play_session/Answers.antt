use Rattle.std.proofs.Common.{ap, refl, Err, map}
use Rattle.session_script.specs.Scripts.{script_of_parts}
use Rattle.history_merge.specs.Merging.{known_view}
use Rattle.shell_streams.proofs.CallerLemmas.{puts_as}
use Rattle.carousel_shell.proofs.Playing.{plays_stopped, plays_misread, plays_nothing, plays_all, plays_part, told_report}
use Rattle.carousel_shell.proofs.sessions.play_session.Goals as goal

pub returns-in-Err-clause-plays : goal.returns-in-Err-clause-plays
returns-in-Err-clause-plays g c = rw c.from.ensures (plays_stopped c.args.weigh.weights _ _ c.in-Err.fault c.in-Err.ensures.stopped (λ e. c.in-Err.ensures.cause (ap Err e)) refl)

pub returns-in-Err-read_parts-clause-plays : goal.returns-in-Err-read_parts-clause-plays
returns-in-Err-read_parts-clause-plays g c = rw c.from-in-Err-read_parts.ensures (plays_misread c.args.weigh.weights _ _ c.in-Ok.text.items c.in-Err-read_parts.fault c.in-Ok.ensures.whole (rw c.deref.ensures.value at c.in-Err-read_parts.ensures.grammar) refl)

pub returns-in-Err-play-clause-plays : goal.returns-in-Err-play-clause-plays
returns-in-Err-play-clause-plays g c = plays_nothing c.args.weigh.weights _ _ c.in-Ok.text.items c.in-Ok.ensures.whole refl

pub returns-in-Ok-put_report-clause-plays : goal.returns-in-Ok-put_report-clause-plays
returns-in-Ok-put_report-clause-plays g c =
    plays_all c.args.weigh.weights _ _ _ c.in-Ok.text.items (script_of_parts c.in-Ok-read_parts.parts) (map known_view c.in-Ok-play.told.items) c.in-Ok.ensures.whole (rw c.deref.ensures.value at c.in-Ok-read_parts.ensures.grammar)
    c.in-Ok-play.ensures c.requires c.in-Ok-put_report.ensures.empty (puts_as (told_report c.in-Ok-play.told.items) (rw c.deref-2.ensures.value at c.in-Ok-put_report.ensures.puts))

pub returns-clause-plays : goal.returns-clause-plays
returns-clause-plays g c =
    rw c.from-in-Err-put_report.ensures (plays_part c.args.weigh.weights _ _ _ c.in-Ok.text.items (script_of_parts c.in-Ok-read_parts.parts) (map known_view c.in-Ok-play.told.items) c.in-Err-put_report.fault c.in-Ok.ensures.whole
    (rw c.deref.ensures.value at c.in-Ok-read_parts.ensures.grammar) c.in-Ok-play.ensures c.requires
    (puts_as (told_report c.in-Ok-play.told.items) (rw c.deref-2.ensures.value at c.in-Err-put_report.ensures.puts)))
