use Rattle.std.proofs.Common.{◌+◌, sym, ◌∙◌, arith}
use Rattle.cycle_planner.proofs.Stepping.{round_begins, lines_past}
use Rattle.cycle_planner.proofs.place.place_from.Goals as goal

pub returns-then-round-rounds-clause-items : goal.returns-then-round-rounds-clause-items
returns-then-round-rounds-clause-items g c =
    let ws = c.args.weigh.now.weights in
    let lines = c.args.lines.now in
    sym (round_begins ws lines (c.args.round + 1) (omega (arith, c.if-round-rounds.true, c.requires.rounds)))
    ∙ sym (lines_past ws lines c.args.round c.loop-line.line (omega (arith, c.loop-line-test.false)))
    ∙ c.loop-line.invariant
