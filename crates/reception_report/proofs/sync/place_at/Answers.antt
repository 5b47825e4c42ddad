use Rattle.std.proofs.Common.{arith, ap, sym, ◌∙◌}
use Rattle.std.specs.List.{find}
use Rattle.reception_report.specs.Sync.{stands_at}
use Rattle.reception_report.proofs.Syncing.{range_begin, found_here, found_later, found_none}
use Rattle.reception_report.proofs.sync.place_at.Goals as goal

pub loop-place-init : goal.loop-place-init
loop-place-init c = ap (find (stands_at c.args.distance c.args.front.now)) (range_begin _)

pub returns-then-stands_at : goal.returns-then-stands_at
returns-then-stands_at c = found_here (stands_at c.args.distance c.args.front.now) c.loop-place.place _ _ (omega arith) (sym c.stands_at.ensures ∙ c.if-stands_at.true) c.loop-place.invariant

pub loop-place-preserved : goal.loop-place-preserved
loop-place-preserved c = found_later (stands_at c.args.distance c.args.front.now) c.loop-place.place _ _ (omega arith) (sym c.stands_at.ensures ∙ c.if-stands_at.false) c.loop-place.invariant

pub returns : goal.returns
returns c = found_none (stands_at c.args.distance c.args.front.now) c.loop-place.place _ _ (omega arith) c.loop-place.invariant
