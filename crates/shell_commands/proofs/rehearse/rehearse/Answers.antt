use Rattle.std.proofs.Common.{ap, refl, Err}
use Rattle.session_script.specs.Scripts.{script_of_parts}
use Rattle.shell_commands.proofs.Rehearsing.{rehearses_stopped, rehearses_misread, rehearses_all, rehearses_part}
use Rattle.shell_commands.proofs.rehearse.rehearse.Goals as goal

pub returns-in-Err-clause-rehearses : goal.returns-in-Err-clause-rehearses
returns-in-Err-clause-rehearses g c = rw c.from.ensures (rehearses_stopped c.args.weigh.weights _ _ c.in-Err.fault c.in-Err.ensures.stopped (λ e. c.in-Err.ensures.cause (ap Err e)) refl)

pub returns-in-Err-read_parts-clause-rehearses : goal.returns-in-Err-read_parts-clause-rehearses
returns-in-Err-read_parts-clause-rehearses g c = rw c.from-in-Err-read_parts.ensures (rehearses_misread c.args.weigh.weights _ _ c.in-Ok.text.items c.in-Err-read_parts.fault c.in-Ok.ensures.whole (rw c.deref.ensures.value at c.in-Err-read_parts.ensures.grammar) refl)

pub returns-in-Ok-rehearse-clause-rehearses : goal.returns-in-Ok-rehearse-clause-rehearses
returns-in-Ok-rehearse-clause-rehearses g c = rehearses_all c.args.weigh.weights _ _ _ c.in-Ok.text.items (script_of_parts c.in-Ok-read_parts.parts) c.in-Ok.ensures.whole (rw c.deref.ensures.value at c.in-Ok-read_parts.ensures.grammar) c.requires c.in-Ok-rehearse.ensures

pub returns-in-Err-rehearse-clause-rehearses : goal.returns-in-Err-rehearse-clause-rehearses
returns-in-Err-rehearse-clause-rehearses g c =
    rw c.from-in-Err-rehearse.ensures (rehearses_part c.args.weigh.weights _ _ _ c.in-Ok.text.items (script_of_parts c.in-Ok-read_parts.parts) c.in-Err-rehearse.fault c.in-Ok.ensures.whole (rw c.deref.ensures.value at c.in-Ok-read_parts.ensures.grammar) c.requires c.in-Err-rehearse.ensures)
