use Rattle.session_script.proofs.Imports.{◌∙◌, ap, sym, subst, line_by, is_kept, view_said, Suits}
use Rattle.session_script.proofs.Walking.{kept_asks}
use Rattle.session_script.proofs.Growing.{grows}
use Rattle.session_script.proofs.reading.Reading.read.Goals as goal

pub returns-in_err-add-in-Ok-clause-memory : goal.returns-in_err-add-in-Ok-clause-memory
returns-in_err-add-in-Ok-clause-memory c =
    λ _. kept_asks c.args.self.now.part c.args.line.now (ap is_kept c.in-Ok.ensures.gives ∙ c.in_err-add-in-Ok.ensures.memory)

pub returns-in_ok-add-in-Ok-clause-says : goal.returns-in_ok-add-in-Ok-clause-says
returns-in_ok-add-in-Ok-clause-says c = λ above stands.
    let says = sym (ap (λ part. line_by part c.args.line.now) stands.part) ∙ c.in-Ok.ensures.gives in
    let suits = subst (λ part. Suits part (view_said c.in-Ok.said)) stands.part c.in-Ok.ensures.suits in (
      view_said c.in-Ok.said,
      says,
      suits,
      grows c.args.self.now c.add.new.self c.saturating_add-number.result above (view_said c.in-Ok.said) stands c.saturating_add-number.ensures
          suits c.in-Ok.ensures.range (c.in_ok-add-in-Ok.ensures.adds stands.shape),
    )
