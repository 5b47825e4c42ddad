use Rattle.std.proofs.lemmas.Result.{err_from_is_err_and}
use Rattle.oc_bytes.specs.Cause.{place_of}
use Rattle.oc_bytes.proofs.CallerLemmas.{pass_on, pass_ends, pass_done}
use Rattle.ior_tap.specs.IorReading.{tap_at}
use Rattle.dsi_dii.proofs.reading.pass_taps.Goals as goal

pub returns-in_err-pass_tap : goal.returns-in_err-pass_tap
returns-in_err-pass_tap c =
    let p = err_from_is_err_and c.from_residual.result c.from_residual.ensures.1 in
    let fault = place_of c.in_err-pass_tap.field-0.0 in
    rw (p.1, p.2) (pass_ends tap_at fault _ _ _ _ c.loop-test.true c.in_err-pass_tap.ensures c.loop.invariant)

pub loop-preserved : goal.loop-preserved
loop-preserved c = pass_on tap_at _ _ _ _ _ c.loop-test.true c.in_ok-pass_tap.ensures c.loop.invariant

pub returns : goal.returns
returns c = pass_done tap_at _ _ _ _ c.loop-test.false c.loop.invariant
