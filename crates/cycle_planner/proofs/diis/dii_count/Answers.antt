use Rattle.std.proofs.Common.{◌∙◌, sym, arith}
use Rattle.cycle_planner.specs.Places.{IsListed}
use Rattle.cycle_planner.proofs.Groups.{few_diis, some_dii, one_counted, none_counted, all_counted}
use Rattle.cycle_planner.proofs.diis.dii_count.Goals as goal
use Rattle.cycle_planner.proofs.diis.dii_count.Goals.{then-has_group, else-has_group}

pub overflow_add-count : goal.overflow_add-count
overflow_add-count c = omega (arith, c.loop-group.invariant, few_diis c.args.lines.now)

pub loop-group-preserved : goal.loop-group-preserved
loop-group-preserved c =
    let lines = c.args.lines.now in
    let group = c.loop-group.group in
    elim c.if-has_group.branch [
      | then-has_group w ↦
          let is : IsListed lines group = record { above = omega (arith, c.loop-group.auto.group); within = omega (arith, c.loop-group-test.true); has = sym c.has_group.ensures ∙ w.if-has_group.true } in
          omega (arith, w.count-is, one_counted lines group c.loop-group.count is c.loop-group.invariant)
      | else-has_group w ↦
          omega (arith, w.count-is, none_counted lines group c.loop-group.count (omega (arith, c.loop-group-test.true)) (sym c.has_group.ensures ∙ w.if-has_group.false) c.loop-group.invariant)
    ]

pub returns-clause-count : goal.returns-clause-count
returns-clause-count c = all_counted c.args.lines.now c.loop-group.group c.loop-group.count (omega (arith, c.loop-group-test.false)) c.loop-group.invariant

pub returns-clause-some : goal.returns-clause-some
returns-clause-some c =
    omega (arith, all_counted c.args.lines.now c.loop-group.group c.loop-group.count (omega (arith, c.loop-group-test.false)) c.loop-group.invariant, some_dii c.args.lines.now)

pub returns-clause-few : goal.returns-clause-few
returns-clause-few c =
    omega (arith, all_counted c.args.lines.now c.loop-group.group c.loop-group.count (omega (arith, c.loop-group-test.false)) c.loop-group.invariant, few_diis c.args.lines.now)
