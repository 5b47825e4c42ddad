use Rattle.std.proofs.Common.{arith}
use Rattle.cycle_planner.proofs.Groups.{dii_first}
use Rattle.cycle_planner.proofs.Placing.{dii_next, dii_there, some_after, group_after_is}
use Rattle.cycle_planner.proofs.diis.group_at.Goals as goal

pub group_after-requires-clause-group : goal.group_after-requires-clause-group
group_after-requires-clause-group c = c.loop-before.invariant.listed.within

pub unwrap-group-requires : goal.unwrap-group-requires
unwrap-group-requires c =
    let lines = c.args.lines.now in
    let group = c.loop-before.group in
    some_after lines group c.group_after.result c.group_after.ensures
    (dii_there lines group c.loop-before._before (omega (arith, c.loop-before-test.true, c.requires.below)) c.loop-before.invariant.diis (dii_first lines group c.loop-before.invariant.listed))

pub loop-before-preserved : goal.loop-before-preserved
loop-before-preserved c =
    let lines = c.args.lines.now in
    let group = c.loop-before.group in
    let next = group_after_is lines group c.group_after.result c.unwrap-group.result c.unwrap-group.ensures c.group_after.ensures in
    record {
      listed = next.0;
      diis = dii_next lines group c.unwrap-group.result c.loop-before._before c.loop-before.invariant.diis (dii_first lines group c.loop-before.invariant.listed) next.1;
    }
