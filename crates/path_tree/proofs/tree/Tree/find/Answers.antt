use Rattle.std.proofs.Common.{◌≡◌, None, is_some, ap, sym, subst, ◌∙◌, arith}
use Rattle.std.proofs.lemmas.Grind.{common_steps}
use Rattle.path_tree.specs.Inner.Places.{place_in, first_at}
use Rattle.path_tree.specs.Trees.{IsTree}
use Rattle.path_tree.proofs.Changes.{rest_at, entry-cut, mapped_some}
use Rattle.path_tree.proofs.Others.{number-cut}
use Rattle.path_tree.proofs.tree.Tree.find.Goals as goal

pub returns-in-Some-clause-found : goal.returns-in-Some-clause-found
returns-in-Some-clause-found c =
    number-cut c.args.self.now c.args.path.now c.place_of-place.result
    (ap (λ t. is_some (first_at (rest_at t c.place_of-place.result) c.args.path.now)) (sym (c.as_slice-entries.ensures.value ∙ c.self.view_is))
    ∙ (ap is_some (sym c.first_at.ensures) ∙ (mapped_some _ c.first_at.result ∙ ap is_some c.in-Some.is)))

pub returns-in-None-clause-none : goal.returns-in-None-clause-none
returns-in-None-clause-none c =
    let tree : IsTree c.args.self.now = subst IsTree c.self.view_is c.self.invariant in
    let place : c.place_of-place.result ≡ place_in c.args.self.now c.args.path.now = grind (arith, common_steps) in
    let none : first_at (rest_at c.args.self.now c.place_of-place.result) c.args.path.now ≡ None = grind (arith, common_steps) in
    entry-cut c.args.self.now c.args.path.now c.place_of-place.result tree place ∙ none
