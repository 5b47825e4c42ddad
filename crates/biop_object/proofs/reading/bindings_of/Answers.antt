use Rattle.std.proofs.Common.{◌≡◌, ◌++◌, ◌∷◌, [], map}
use Rattle.std.proofs.lemmas.Result.{err_from_is_err_and}
use Rattle.std.proofs.lemmas.List.{map_push}
use Rattle.biop_object.specs.Objects.{view_binding, binding}
use Rattle.biop_object.specs.Inner.Index.{cause}
use Rattle.oc_bytes.specs.Grammar.{read}
use Rattle.oc_bytes.specs.Cursor.{each_at}
use Rattle.oc_bytes.proofs.CallerLemmas.{begins, goes_on, ends, is_done}
use Rattle.biop_object.proofs.reading.bindings_of.Goals as goal

pub loop-init : goal.loop-init
loop-init c = rw c.new-bindings.ensures (begins (read binding) c.args.count c.args.fields.now)

pub returns-in_err-binding : goal.returns-in_err-binding
returns-in_err-binding c =
    let p = err_from_is_err_and c.from_residual.result c.from_residual.ensures.1 in
    rw (p.1, p.2) (ends (read binding) (cause c.in_err-binding.field-0.0) (map view_binding c.loop.bindings) c.args.count c.loop.counter c.loop.fields (each_at (read binding) c.args.count c.args.fields.now) c.loop-test.true c.in_err-binding.ensures c.loop.invariant)

pub loop-preserved : goal.loop-preserved
loop-preserved c =
    let t = c.in_ok-binding.binding in
    let e : map view_binding c.in_ok-bindings.bindings ≡ map view_binding c.loop.bindings ++ view_binding t ∷ [] = rw c.in_ok-bindings.ensures (map_push view_binding c.loop.bindings t) in
    rw e (goes_on (read binding) (map view_binding c.loop.bindings) c.args.count c.loop.counter c.loop.fields c.binding_of.new.fields (view_binding t) (each_at (read binding) c.args.count c.args.fields.now) c.loop-test.true c.in_ok-binding.ensures c.loop.invariant)

pub returns : goal.returns
returns c = is_done (read binding) (map view_binding c.loop.bindings) c.args.count c.loop.counter c.loop.fields (each_at (read binding) c.args.count c.args.fields.now) c.loop-test.false c.loop.invariant
