use Rattle.rehearsal.proofs.FilledBytes.{fills_more}
use Rattle.rehearsal.proofs.interpreter.filled.Goals as goal

pub loop-place-preserved : goal.loop-place-preserved
loop-place-preserved c = fills_more c.args.from c.loop-place.place c.loop-place.bytes.items c.filled_byte.result _ c.loop-place.invariant c.filled_byte.ensures c.in_ok-push.ensures.items
