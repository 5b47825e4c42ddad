use Rattle.session_script.proofs.Imports.{refl, ap, ◌∙◌, view_said}
use Rattle.session_script.proofs.Growing.{adds_start}
use Rattle.session_script.proofs.reading.Reading.add.Goals as goal

pub returns-in-Starts-clause-adds : goal.returns-in-Starts-clause-adds
returns-in-Starts-clause-adds c = λ shape.
    adds_start c.args.self.now _ (view_said c.args.said) (ap view_said c.in-Starts.is) c.requires shape refl refl refl refl
    (ap (λ v. v.items) c.replace.ensures.value) (ap (λ v. v.items) c.replace.ensures.after ∙ c.new.ensures.items) refl refl
