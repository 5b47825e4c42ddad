use Rattle.std.proofs.Common.{◌==◌, sym, ap, ◌∙◌}
use Rattle.std.specs.Option.{option_map}
use Rattle.path_resolver.specs.Shots.{view_listed}
use Rattle.tuner_core.proofs.Seeking.{found_by, found_after}
use Rattle.tuner_core.proofs.lending.listed_in.Goals as goal

pub returns-in-Some : goal.returns-in-Some
returns-in-Some c = found_by (λ h. h.line.id == c.args.id) c.args.held.now c.loop-tuned.tuned-index c.tuned-item.result (view_listed c.in-Some.listed) _
    c.loop-tuned-test.true c.tuned-item.is c.in-Some.ensures c.loop-tuned.invariant

pub loop-tuned-preserved : goal.loop-tuned-preserved
loop-tuned-preserved c = found_after (λ h. h.line.id == c.args.id) c.args.held.now c.loop-tuned.tuned-index c.tuned-item.result _
    c.loop-tuned-test.true c.tuned-item.is (sym c.listed_by.ensures ∙ ap (option_map view_listed) c.in_default.is) c.loop-tuned.invariant
