use Rattle.std.proofs.Common.{◌+◌, ◌<◌, length, arith, ap, ◌∙◌}
use Rattle.std.proofs.lemmas.Grind.{get_or_default_zero}
use Rattle.oc_bytes.specs.Outcome.{cap_at_u64}
use Rattle.reception_report.specs.Outcomes.{outcome_of, place_of}
use Rattle.reception_report.proofs.Tallying.{counted}
use Rattle.reception_report.proofs.tally.Tally.count.Goals as goal

pub returns : goal.returns
returns c = λ before candidate counts fed.
    let within : c.place-place.result < length c.self.inside.numbers.items = omega (arith, c.place-place.ensures.within, c.self.invariant) in
    counted c.self.inside.numbers.items before candidate _ _ (rw (← c.self.view_is) at counts) within
    (c.place-place.ensures.place ∙ ap place_of (c.of.ensures ∙ ap outcome_of fed)) (c.raised.ensures ∙ ap (λ k. cap_at_u64 (k + 1)) (c.index.ensures ∙ get_or_default_zero c.self.inside.numbers.items c.place-place.result c.index.result.now within))
