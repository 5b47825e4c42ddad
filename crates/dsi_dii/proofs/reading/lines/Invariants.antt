use Rattle.std.proofs.Common.{◌≡◌, ◌-◌}
use Rattle.oc_bytes.specs.Cursor.{each_at}
use Rattle.dsi_dii.specs.Inner.ControlReading.{line_at}
use Rattle.oc_bytes.proofs.CallerLemmas.{with_front}
use Rattle.dsi_dii.proofs.reading.lines.Given as goal

abbrev pub invariant-loop : goal.invariant-loop
invariant-loop l =
    with_front l.modules.items (each_at line_at (l.count - l.counter) l.fields) ≡ each_at line_at l.count l.fn.fields
