use Rattle.std.proofs.Common.{sym}
use Rattle.biop_object.proofs.Finding.{binding_found, binding_missed}
use Rattle.biop_object.proofs.module.first_named.Goals as goal

pub returns-in_err-place : goal.returns-in_err-place
returns-in_err-place c = rw c.from_residual.ensures (sym (binding_missed c.args.name.now c.args.bindings.now (sym c.in_err-place.ensures.first)))

pub returns : goal.returns
returns c = sym (binding_found c.args.name.now c.args.bindings.now c.in_ok-place.place c.index-items-place.result (sym c.in_ok-place.ensures.first) (rw c.items.ensures at c.index-items-place.is))
