use Rattle.history_merge.proofs.Words.{◌<◌, length, map, arith, known_view, view_waiting}
use Rattle.history_merge.proofs.Turns.{reader_climbs, reader_told}
use Rattle.history_merge.proofs.history.tell_all.Goals as goal

pub tell-requires : goal.tell-requires
tell-requires c = let at = c.loop-reader in
    let less : at.reader-index < length at.waiting = (let same = at.auto.waiting in let below = c.loop-reader-test.true in omega arith) in
    reader_climbs c.args.draws at.reader-index at.waiting c.reader-item.result less at.invariant.rest

pub loop-reader-preserved : goal.loop-reader-preserved
loop-reader-preserved c = let at = c.loop-reader in
    let less : at.reader-index < length at.waiting = (let same = at.auto.waiting in let below = c.loop-reader-test.true in omega arith) in
    reader_told c.args.draws at.reader-index at.waiting (map view_waiting c.args.waiting.now) (map known_view at.told.items) _ (map known_view c.tell.new.told.items) c.reader-item.result c.tell.new.self
    less c.in_ok-tell.ensures at.invariant
