use Rattle.std.proofs.Common.{◌∙◌, arith}
use Rattle.cycle_planner.proofs.Placing.{dii_place, diis_passed, among_blocks}
use Rattle.cycle_planner.proofs.place.place_in_round.Goals as goal

pub place_in_lines-requires-clause-below : goal.place_in_lines-requires-clause-below
place_in_lines-requires-clause-below g c =
    among_blocks c.args.weigh.now.weights c.args.lines.now c.args.round c.args.at c.dii_count-diis.result c.dii_count-diis.ensures.count (omega (arith, c.if-at-diis.false)) c.requires.below

pub returns-then-at-diis-clause-items : goal.returns-then-at-diis-clause-items
returns-then-at-diis-clause-items g c =
    dii_place c.args.weigh.now.weights c.args.lines.now c.args.round c.args.at c.group_at.result c.requires.round (omega (arith, c.if-at-diis.true, c.dii_count-diis.ensures.count)) c.group_at.ensures.diis

pub returns-else-at-diis-clause-items : goal.returns-else-at-diis-clause-items
returns-else-at-diis-clause-items g c =
    c.place_in_lines.ensures.items ∙ diis_passed c.args.weigh.now.weights c.args.lines.now c.args.round c.args.at c.dii_count-diis.result c.requires.round c.dii_count-diis.ensures.count (omega (arith, c.if-at-diis.false))
