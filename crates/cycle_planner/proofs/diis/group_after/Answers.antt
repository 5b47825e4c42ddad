use Rattle.std.proofs.Common.{sym, ◌∙◌, arith}
use Rattle.cycle_planner.proofs.Groups.{dii_passed, diis_past}
use Rattle.cycle_planner.proofs.diis.group_after.Goals as goal

pub loop-next-preserved : goal.loop-next-preserved
loop-next-preserved c =
    sym (dii_passed c.args.lines.now c.loop-next.next (omega (arith, c.loop-next-test.true)) (sym c.has_group.ensures ∙ c.if-has_group.false)) ∙ c.loop-next.invariant

pub returns : goal.returns
returns c = sym c.loop-next.invariant ∙ diis_past c.args.lines.now c.loop-next.next (omega (arith, c.loop-next-test.false))
