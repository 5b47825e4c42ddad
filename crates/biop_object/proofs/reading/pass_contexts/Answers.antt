use Rattle.std.proofs.lemmas.Result.{err_from_is_err_and}
use Rattle.oc_bytes.specs.Cause.{place_of}
use Rattle.oc_bytes.specs.Cursor.{each_at, skip_reading}
use Rattle.oc_bytes.specs.Grammar.{read}
use Rattle.biop_object.specs.Objects.{context}
use Rattle.oc_bytes.proofs.CallerLemmas.{pass_begins, pass_on, pass_ends, pass_done}
use Rattle.biop_object.proofs.reading.pass_contexts.Goals as goal

pub loop-init : goal.loop-init
loop-init c = pass_begins (read context) c.args.count c.args.fields.now

pub returns-in_err-pass_context : goal.returns-in_err-pass_context
returns-in_err-pass_context c =
    let p = err_from_is_err_and c.from_residual.result c.from_residual.ensures.1 in
    rw (p.1, p.2) (pass_ends (read context) (place_of c.in_err-pass_context.field-0.0) c.args.count c.loop.counter c.loop.fields (skip_reading (each_at (read context) c.args.count c.args.fields.now)) c.loop-test.true c.in_err-pass_context.ensures c.loop.invariant)

pub loop-preserved : goal.loop-preserved
loop-preserved c = pass_on (read context) c.args.count c.loop.counter c.loop.fields c.pass_context.new.fields (skip_reading (each_at (read context) c.args.count c.args.fields.now)) c.loop-test.true c.in_ok-pass_context.ensures c.loop.invariant

pub returns : goal.returns
returns c = pass_done (read context) c.args.count c.loop.counter c.loop.fields (skip_reading (each_at (read context) c.args.count c.args.fields.now)) c.loop-test.false c.loop.invariant
