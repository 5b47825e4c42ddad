use Rattle.std.proofs.Common.{◌+◌, ◌*◌, arith, ap}
use Rattle.std.specs.Prelude.{◌==◌, slice_index}
use Rattle.std.specs.List.{list_all}
use Rattle.std.proofs.lemmas.Bool.{eq-eqb, ne_eqb}
use Rattle.reception_report.proofs.Syncing.{range_begin, passes_here, fails_here, passes_all, with_two}
use Rattle.reception_report.proofs.sync.stands_at.Goals as goal

pub loop-i-init : goal.loop-i-init
loop-i-init c = ap (list_all (λ i. slice_index c.args.front.now (i * c.args.distance + c.args.place) == 0x47)) (range_begin _)

pub returns-then-front-i-ne-SYNC : goal.returns-then-front-i-ne-SYNC
returns-then-front-i-ne-SYNC c = with_two _ _ _ (omega arith) (fails_here (λ i. slice_index c.args.front.now (i * c.args.distance + c.args.place) == 0x47) c.loop-i.i _ _ (omega arith) (ne_eqb _ _ c.if-front-i-ne-SYNC.true) c.loop-i.invariant)

pub loop-i-preserved : goal.loop-i-preserved
loop-i-preserved c = passes_here (λ i. slice_index c.args.front.now (i * c.args.distance + c.args.place) == 0x47) c.loop-i.i _ _ (omega arith) (eq-eqb _ _ c.if-front-i-ne-SYNC.false) c.loop-i.invariant

pub returns : goal.returns
returns c = with_two _ _ _ (omega arith) (passes_all (λ i. slice_index c.args.front.now (i * c.args.distance + c.args.place) == 0x47) c.loop-i.i _ _ (omega arith) c.loop-i.invariant)
