use Rattle.std.proofs.Common.{◌≡◌, ◌++◌, ◌∷◌, [], map}
use Rattle.std.proofs.lemmas.Result.{err_from_is_err_and}
use Rattle.std.proofs.lemmas.List.{map_push}
use Rattle.ior_tap.specs.Iors.{view_tap, cause}
use Rattle.ior_tap.specs.IorReading.{tap_at}
use Rattle.oc_bytes.specs.Cursor.{each_at}
use Rattle.oc_bytes.proofs.CallerLemmas.{begins, goes_on, ends, is_done}
use Rattle.ior_tap.proofs.reading.taps_of.Goals as goal

pub loop-init : goal.loop-init
loop-init c = rw c.new-taps.ensures.items (begins tap_at c.args.count c.args.fields.now)

pub returns-in_err-tap : goal.returns-in_err-tap
returns-in_err-tap c =
    let p = err_from_is_err_and c.from_residual.result c.from_residual.ensures.1 in
    rw (p.1, p.2) (ends tap_at (cause c.in_err-tap.field-0.0) (map view_tap c.loop.taps.items) c.args.count c.loop.counter c.loop.fields (each_at tap_at c.args.count c.args.fields.now) c.loop-test.true c.in_err-tap.ensures c.loop.invariant)

pub loop-preserved : goal.loop-preserved
loop-preserved c =
    let t = c.in_ok-tap.tap in
    let e : map view_tap c.push.new.self.items ≡ map view_tap c.loop.taps.items ++ view_tap t ∷ [] = rw c.in_ok-push.ensures.items (map_push view_tap c.loop.taps.items t) in
    rw e (goes_on tap_at (map view_tap c.loop.taps.items) c.args.count c.loop.counter c.loop.fields c.tap_of.new.fields (view_tap t) (each_at tap_at c.args.count c.args.fields.now) c.loop-test.true c.in_ok-tap.ensures c.loop.invariant)

pub returns : goal.returns
returns c = is_done tap_at (map view_tap c.loop.taps.items) c.args.count c.loop.counter c.loop.fields (each_at tap_at c.args.count c.args.fields.now) c.loop-test.false c.loop.invariant
