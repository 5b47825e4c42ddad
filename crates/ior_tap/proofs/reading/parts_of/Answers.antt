use Rattle.std.proofs.Common.{refl, ap, List, [], ◌∷◌, ◌++◌, Ok, ℕ}
use Rattle.std.proofs.lemmas.Result.{err_from_is_err_and}
use Rattle.oc_bytes.specs.Cause.{place_of}
use Rattle.oc_bytes.specs.Cursor.{Reading, ◌>>=◌, each_at}
use Rattle.oc_bytes.proofs.CallerLemmas.{begins, goes_on, ends, is_done}
use Rattle.ior_tap.specs.declared.tags.TheConstants.{LOCATION_TAG, BINDER_TAG}
use Rattle.ior_tap.specs.Inner.IorReading.{Parts, component_at, parts_of}
use Rattle.ior_tap.proofs.Loop.{first_more}
use Rattle.ior_tap.proofs.reading.parts_of.Goals as goal

abbrev chosen : Reading (List (ℕ × List ℕ)) → Reading Parts
chosen read = read >>= λ x. Ok (parts_of x.0, x.1)

pub loop-init : goal.loop-init
loop-init c = ([], refl, refl, begins component_at c.args.count c.args.fields.now)

pub returns-in_err-component : goal.returns-in_err-component
returns-in_err-component c =
    let p = err_from_is_err_and c.from_residual.result c.from_residual.ensures.1 in
    let s = c.loop.invariant in
    rw (p.1, p.2) (ap chosen (ends component_at (place_of c.in_err-component.field-0.0) s.0 c.args.count c.loop.counter c.loop.fields (each_at component_at c.args.count c.args.fields.now) c.loop-test.true c.in_err-component.ensures s.3))

pub loop-preserved : goal.loop-preserved
loop-preserved c =
    let x : ℕ × List ℕ = (c.in_ok-component.component.tag, c.in_ok-component.component.content.now) in
    let s = c.loop.invariant in (
      s.0 ++ x ∷ [],
      first_more LOCATION_TAG x s.0 _ _ s.1 c.with-parts.ensures.location,
      first_more BINDER_TAG x s.0 _ _ s.2 c.with-parts.ensures.binder,
      goes_on component_at s.0 c.args.count c.loop.counter c.loop.fields c.component_of.new.fields x (each_at component_at c.args.count c.args.fields.now) c.loop-test.true c.in_ok-component.ensures s.3,
    )

pub returns : goal.returns
returns c =
    let s = c.loop.invariant in
    rw (s.1, s.2) (ap chosen (is_done component_at s.0 c.args.count c.loop.counter c.loop.fields (each_at component_at c.args.count c.args.fields.now) c.loop-test.false s.3))
