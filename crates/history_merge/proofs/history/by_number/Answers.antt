use Rattle.history_merge.proofs.Words.{arith, map, view_waiting, waited_by}
use Rattle.history_merge.proofs.Turns.{numbers_more}
use Rattle.history_merge.proofs.history.by_number.Goals as goal

pub loop-number-preserved : goal.loop-number-preserved
loop-number-preserved c = let less = c.loop-number-test.true in
    numbers_more (waited_by c.args.passes.now) c.loop-number.number (map view_waiting c.loop-number.waiting.items) (map view_waiting c.push_reader.new.waiting.items) _
    (omega arith) c.loop-number.invariant c.in_ok-push_reader.ensures
