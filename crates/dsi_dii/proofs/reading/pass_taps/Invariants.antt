use Rattle.std.proofs.Common.{◌≡◌, ◌-◌}
use Rattle.ior_tap.specs.IorReading.{tap_at}
use Rattle.oc_bytes.specs.Cursor.{each_at, skip_reading}
use Rattle.dsi_dii.proofs.reading.pass_taps.Given as goal

abbrev pub invariant-loop : goal.invariant-loop
invariant-loop l =
    skip_reading (each_at tap_at (l.count - l.counter) l.fields) ≡ skip_reading (each_at tap_at l.count l.fn.fields)
