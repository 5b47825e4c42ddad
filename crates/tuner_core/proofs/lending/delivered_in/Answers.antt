use Rattle.std.proofs.Common.{◌≡◌, ◌==◌, ◌&&◌, eqb, true, sym, ap, ◌∙◌, eq-eqb}
use Rattle.std.proofs.lemmas.Bool.{ne_eqb}
use Rattle.std.specs.Option.{option_map}
use Rattle.path_resolver.specs.Shots.{view_listed}
use Rattle.tuner_core.proofs.Seeking.{found_by, found_after, of_the_dii, of_another_dii}
use Rattle.tuner_core.proofs.lending.delivered_in.Goals as goal
use Rattle.tuner_core.proofs.lending.delivered_in.Goals.{then-identification+in_default, else-identification}

pub returns-in-Some : goal.returns-in-Some
returns-in-Some c =
    let is : eqb c.tuned-item.result.identification c.args.identification ≡ true = eq-eqb _ _ (sym c.identification.ensures ∙ c.if-identification.true) in
    found_by (λ h. (h.identification == c.args.identification) && (h.line.id == c.args.id)) c.args.held.now c.loop-tuned.tuned-index c.tuned-item.result (view_listed c.in-Some.listed) _
    c.loop-tuned-test.true c.tuned-item.is (c.in-Some.ensures ∙ sym (of_the_dii c.tuned-item.result c.args.identification c.args.id is)) c.loop-tuned.invariant

pub loop-tuned-preserved : goal.loop-tuned-preserved
loop-tuned-preserved c =
    found_after (λ h. (h.identification == c.args.identification) && (h.line.id == c.args.id)) c.args.held.now c.loop-tuned.tuned-index c.tuned-item.result _ c.loop-tuned-test.true c.tuned-item.is
    (elim c.if-identification.branch [
      | then-identification+in_default w ↦
          of_the_dii c.tuned-item.result c.args.identification c.args.id (eq-eqb _ _ (sym c.identification.ensures ∙ w.if-identification.true))
          ∙ sym w.listed_by.ensures ∙ ap (option_map view_listed) w.in_default.is
      | else-identification w ↦ of_another_dii c.tuned-item.result c.args.identification c.args.id (ne_eqb _ _ (λ e. w.if-identification.false (c.identification.ensures ∙ e)))
    ])
    c.loop-tuned.invariant
