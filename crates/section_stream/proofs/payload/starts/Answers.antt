use Rattle.std.proofs.Common.{◌+◌, refl, arith}
use Rattle.section_stream.proofs.Handing.{all_still_whole, done_as, out_as, starts_begun}
use Rattle.section_stream.proofs.Opening.{rest_is, part_is}
use Rattle.section_stream.proofs.payload.starts.Goals as goal

pub begins-requires-clause-whole : goal.begins-requires-clause-whole
begins-requires-clause-whole c = all_still_whole c.args.jumped c.args.opened.now _ c.closes-whole.result (rw c.bytes_unless.ensures at c.closes-whole.ensures.whole)

pub returns-in-Ok-clause-done : goal.returns-in-Ok-clause-done
returns-in-Ok-clause-done c =
    let p = c.from-pointer.result in
    done_as _ _ _ _ _ _
    (starts_begun c.args.jumped c.args.opened.now c.args.payload.now c.args.counts.now _ p _ _ c.closes-whole.result c.from-pointer.ensures (omega (arith, c.if-pointer-payload.false)) (part_is c.args.payload.now p) (rest_is c.args.payload.now (1 + p))
    (rw c.bytes_unless.ensures at c.closes-whole.ensures.closed) (rw c.bytes_unless.ensures at c.closes-whole.ensures.whole))
    c.in-Ok.ensures.done

pub returns-in-Err-clause-memory : goal.returns-in-Err-clause-memory
returns-in-Err-clause-memory c =
    let p = c.from-pointer.result in
    out_as _ _
    (starts_begun c.args.jumped c.args.opened.now c.args.payload.now c.args.counts.now _ p _ _ c.closes-whole.result c.from-pointer.ensures (omega (arith, c.if-pointer-payload.false)) (part_is c.args.payload.now p) (rest_is c.args.payload.now (1 + p))
    (rw c.bytes_unless.ensures at c.closes-whole.ensures.closed) (rw c.bytes_unless.ensures at c.closes-whole.ensures.whole))
    c.in-Err.ensures.memory

pub returns-in-Err-clause-err : goal.returns-in-Err-clause-err
returns-in-Err-clause-err c = (c.in-Err.ensures.err, refl)
