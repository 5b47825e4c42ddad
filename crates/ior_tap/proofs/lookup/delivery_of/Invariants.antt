use Rattle.std.proofs.Common.{◌≡◌, map, drop}
use Rattle.ior_tap.specs.Iors.{delivery_of_taps, view_tap}
use Rattle.ior_tap.proofs.lookup.delivery_of.Given as goal

abbrev pub invariant-loop-tap : goal.invariant-loop-tap
invariant-loop-tap l = delivery_of_taps (map view_tap (drop l.tap-index l.tap-items)) ≡ delivery_of_taps (map view_tap l.fn.binder.taps.items)
