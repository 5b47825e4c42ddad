use Rattle.std.proofs.Common.{ap, sym, ◌∙◌}
use Rattle.dsi_dii.specs.Controls.{view_dii}
use Rattle.tuner_core.specs.Inner.TunerView.{view_turns}
use Rattle.tuner_core.proofs.Changing.{changes}
use Rattle.tuner_core.proofs.turns.take_dii.Goals as goal

pub returns-clause-changed : goal.returns-clause-changed
returns-clause-changed c = λ changed same.
    changes (view_turns c.args.turns.now) (view_dii c.args.dii.now) (ap (λ x. x.1) (sym c.in_ok-fed.ensures.ok) ∙ changed) (ap (λ x. x.0.cache) (sym c.in_ok-fed.ensures.ok) ∙ same)
