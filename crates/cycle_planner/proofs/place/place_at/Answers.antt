use Rattle.std.proofs.Common.{◌∙◌, arith, drop}
use Rattle.cycle_planner.specs.Cycle.{cycle_of}
use Rattle.cycle_planner.proofs.Stepping.{behind_dsi}
use Rattle.cycle_planner.proofs.Placing.{round_passed, none_left}
use Rattle.cycle_planner.proofs.place.place_at.Goals as goal

pub loop-round-init : goal.loop-round-init
loop-round-init g c = behind_dsi c.args.weigh.now.weights c.args.lines.now c.args.at (omega (arith, c.if-at-eq0.false))

pub loop-round-preserved : goal.loop-round-preserved
loop-round-preserved g c =
    round_passed c.args.weigh.now.weights c.args.lines.now c.loop-round.round c.loop-round.left c.round_len-items.result (drop c.args.at (cycle_of c.args.weigh.now.weights c.args.lines.now))
    (omega (arith, c.requires.rounds, c.loop-round-test.true)) c.round_len-items.ensures (omega (arith, c.if-left-items.false)) c.loop-round.invariant

pub returns-then-left-items-clause-items : goal.returns-then-left-items-clause-items
returns-then-left-items-clause-items g c = c.place_in_round.ensures.items ∙ c.loop-round.invariant

pub returns-clause-items : goal.returns-clause-items
returns-clause-items g c =
    none_left c.args.weigh.now.weights c.args.lines.now c.loop-round.round c.loop-round.left (drop c.args.at (cycle_of c.args.weigh.now.weights c.args.lines.now))
    (omega (arith, c.requires.rounds, c.loop-round-test.false)) c.loop-round.invariant
