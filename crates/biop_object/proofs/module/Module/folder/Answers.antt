use Rattle.std.proofs.Common.{◌≡◌, sym, ap, ◌∙◌, subst, List, ℕ}
use Rattle.std.specs.Prelude.{IsSome, option_and_then, slice_get}
use Rattle.biop_object.specs.Objects.{Object}
use Rattle.biop_object.specs.Inner.Index.{view_index}
use Rattle.biop_object.specs.ObjectReading.{Index, index_of, shape_bindings}
use Rattle.biop_object.proofs.Finding.{some_below}
use Rattle.biop_object.proofs.module.Module.folder.Goals as goal

pub bindings_at-requires-clause-below : goal.bindings_at-requires-clause-below
bindings_at-requires-clause-below c =
    let objects : view_index c.items.result.now ≡ (index_of c.args.self.now).0 = ap view_index c.items.ensures ∙ ap (λ (i : Index). i.0) c.self.invariant.index ∙ ap (λ (b : List ℕ). (index_of b).0) c.self.view_is in
    some_below c.items.result.now c.args.folder (subst (λ (l : List Object). IsSome (option_and_then (λ (o : Object). shape_bindings o.shape) (slice_get l c.args.folder))) (sym objects) c.requires)
