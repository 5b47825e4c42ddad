use Rattle.std.proofs.Common.{◌≡◌, ◌∙◌, ap, map}
use Rattle.biop_object.specs.Inner.Labels.{first_at}
use Rattle.biop_object.proofs.Finding.{first_inside}
use Rattle.biop_object.proofs.labelled.Labelled.first.Goals as goal

pub returns-clause-inside : goal.returns-clause-inside
returns-clause-inside g c =
    let first : c.copied.result ≡ first_at c.args.label.now (map g.T.HasLabel.label c.args.self.now) = c.copied.ensures ∙ c.get.ensures.value ∙ c.self.invariant c.args.label.now ∙ ap (λ xs. first_at c.args.label.now (map g.T.HasLabel.label xs)) c.self.view_is in
    rw first (first_inside g.T.HasLabel.label c.args.label.now c.args.self.now)
