use Rattle.std.proofs.Common.{◌∙◌, ap, arith}
use Rattle.session.specs.Sessions.{accepted_in}
use Rattle.carousel_shell.proofs.Tallies.{accepted_few, accepted_counted, accepted_passed, all_told}
use Rattle.carousel_shell.proofs.counts.accepted.Goals as goal
use Rattle.carousel_shell.proofs.counts.accepted.Goals.{then-is_accepted, else-is_accepted}

pub overflow_add-commits : goal.overflow_add-commits
overflow_add-commits c =
    let few = accepted_few c.args.told.now c.loop-one.one-index c.one-item.result c.loop-one-test.true in
    let now = c.loop-one.invariant in omega (arith, few, now)

pub loop-one-preserved : goal.loop-one-preserved
loop-one-preserved c = elim c.if-is_accepted.branch [
  | then-is_accepted w ↦ accepted_counted c.args.told.now c.loop-one.one-index c.one-item.result c.loop-one-test.true c.one-item.is c.is_accepted.result c.loop-one.commits c.if-is_accepted.commits
      c.is_accepted.ensures w.if-is_accepted.true w.commits-is c.loop-one.invariant
  | else-is_accepted w ↦ accepted_passed c.args.told.now c.loop-one.one-index c.one-item.result c.loop-one-test.true c.one-item.is c.is_accepted.result c.loop-one.commits c.if-is_accepted.commits
      c.is_accepted.ensures w.if-is_accepted.false w.commits-is c.loop-one.invariant
]

pub returns : goal.returns
returns c = c.loop-one.invariant ∙ ap accepted_in (all_told c.args.told.now c.loop-one.one-index (omega arith))
