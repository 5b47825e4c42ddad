use Rattle.std.proofs.Common.{arith}
use Rattle.cycle_planner.specs.Places.{line_at}
use Rattle.cycle_planner.proofs.Order.{within_line}
use Rattle.cycle_planner.proofs.Placing.{ahead_first, line_passed, block_here, no_line}
use Rattle.cycle_planner.proofs.place.place_in_lines.Goals as goal

pub loop-line-init : goal.loop-line-init
loop-line-init g c = ahead_first c.args.weigh.now.weights c.args.round c.args.lines.now c.args.at c.requires.below

pub loop-line-preserved : goal.loop-line-preserved
loop-line-preserved g c =
    line_passed c.args.weigh.now.weights c.args.round c.args.lines.now c.args.at c.loop-line.line c.loop-line.left c.blocks_in-blocks.result c.loop-line-test.true c.blocks_in-blocks.ensures (omega (arith, c.if-left-blocks.false)) c.loop-line.invariant

pub returns-then-left-blocks-clause-items : goal.returns-then-left-blocks-clause-items
returns-then-left-blocks-clause-items g c =
    block_here c.args.weigh.now.weights c.args.round c.args.lines.now c.args.at c.loop-line.line c.loop-line.left c.loop-line-test.true (omega (arith, c.if-left-blocks.true, c.blocks_in-blocks.ensures)) c.loop-line.invariant

pub unreachable-requires : goal.unreachable-requires
unreachable-requires g c = no_line c.args.weigh.now.weights c.args.round c.args.lines.now c.args.at c.loop-line.line c.loop-line.left (omega (arith, c.loop-line-test.false)) c.loop-line.invariant

pub overflow_cast-result : goal.overflow_cast-result
overflow_cast-result g c =
    let line = line_at c.args.lines.now c.loop-line.line in
    omega (arith, within_line c.args.weigh.now.weights c.args.round line c.loop-line.left (omega (arith, c.if-left-blocks.true, c.blocks_in-blocks.ensures)), c.requires.lines.blocks c.loop-line.line (0, 0) c.loop-line-test.true)

pub returns-then-left-blocks-clause-place : goal.returns-then-left-blocks-clause-place
returns-then-left-blocks-clause-place g c =
    let line = line_at c.args.lines.now c.loop-line.line in
    (c.requires.round, c.loop-line-test.true, within_line c.args.weigh.now.weights c.args.round line c.loop-line.left (omega (arith, c.if-left-blocks.true, c.blocks_in-blocks.ensures)))
