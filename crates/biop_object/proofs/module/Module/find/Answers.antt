use Rattle.std.proofs.Common.{◌≡◌, sym, ap, ◌∙◌, subst, List, ℕ, Option}
use Rattle.std.specs.Prelude.{IsSome, option_and_then, slice_get}
use Rattle.oc_bytes.specs.Numbers.{IsBytes}
use Rattle.biop_object.specs.Objects.{Object}
use Rattle.biop_object.specs.Inner.Index.{view_index}
use Rattle.biop_object.specs.ObjectReading.{Index, found_from, index_of, shape_bindings}
use Rattle.biop_object.proofs.ModuleLaws.{found_inside}
use Rattle.biop_object.proofs.module.Module.find.Goals as goal

pub returns-clause-folder : goal.returns-clause-folder
returns-clause-folder c = λ k e.
    let objects : view_index c.self.inside.index ≡ (index_of c.args.self.now).0 = ap (λ (i : Index). i.0) c.self.invariant.index ∙ ap (λ (b : List ℕ). (index_of b).0) c.self.view_is in
    subst (λ (l : List Object). IsSome (option_and_then (λ (o : Object). shape_bindings o.shape) (slice_get l k))) objects (c.find_in.ensures.folder k e)

pub returns-clause-inside : goal.returns-clause-inside
returns-clause-inside c = λ span e.
    let key = c.args.key.now in
    let objects : view_index c.self.inside.index ≡ (index_of c.args.self.now).0 = ap (λ (i : Index). i.0) c.self.invariant.index ∙ ap (λ (b : List ℕ). (index_of b).0) c.self.view_is in
    let stop : c.self.inside.stop ≡ (index_of c.args.self.now).1 = ap (λ (i : Index). i.1) c.self.invariant.index ∙ ap (λ (b : List ℕ). (index_of b).1) c.self.view_is in
    let found = sym (ap (λ (l : List Object). found_from 0 key l c.self.inside.stop) objects ∙ ap (λ (s : Option ℕ). found_from 0 key (index_of c.args.self.now).0 s) stop) ∙ sym c.find_in.ensures.found ∙ e in
    found_inside c.args.self.now key span (subst IsBytes c.self.view_is c.self.invariant.fit) found
