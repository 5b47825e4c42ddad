use Rattle.std.proofs.lemmas.Result.{err_from_is_err_and}
use Rattle.dsi_dii.specs.Inner.ControlReading.{line_at}
use Rattle.oc_bytes.specs.Cause.{place_of}
use Rattle.oc_bytes.proofs.CallerLemmas.{goes_on, ends, is_done}
use Rattle.dsi_dii.proofs.reading.lines.Goals as goal

pub returns-in_err-module-clause-exact : goal.returns-in_err-module-clause-exact
returns-in_err-module-clause-exact c =
    let p = err_from_is_err_and c.from_residual.result c.from_residual.ensures.1 in
    let fault = place_of c.in_err-module.field-0.0 in
    rw (p.1, p.2) (ends line_at fault _ _ _ _ _ c.loop-test.true c.in_err-module.ensures c.loop.invariant)

pub loop-preserved : goal.loop-preserved
loop-preserved c =
    rw c.in_ok-push.ensures.items
    (goes_on line_at c.loop.modules.items _ _ _ _ _ _ c.loop-test.true c.in_ok-module.ensures c.loop.invariant)

pub returns-clause-exact : goal.returns-clause-exact
returns-clause-exact c = is_done line_at _ _ _ _ _ c.loop-test.false c.loop.invariant
