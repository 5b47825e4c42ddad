use Rattle.std.proofs.Common.{◌∙◌, ap, arith}
use Rattle.carousel_shell.specs.Big.{finale_lengths}
use Rattle.carousel_shell.proofs.Tallies.{opens_few, opens_more, lengths_more, all_told}
use Rattle.carousel_shell.proofs.counts.finale_lengths.Goals as goal

pub opens_after-opens-requires : goal.opens_after-opens-requires
opens_after-opens-requires c =
    let few = opens_few c.args.told.now c.loop-one.one-index c.one-item.result c.loop-one-test.true in
    let now = c.loop-one.invariant.0 in omega (arith, few, now)

pub loop-one-preserved : goal.loop-one-preserved
loop-one-preserved c = (
  opens_more c.args.told.now c.loop-one.one-index c.one-item.result c.loop-one-test.true c.one-item.is c.loop-one.opens c.opens_after-opens.result c.opens_after-opens.ensures c.loop-one.invariant.0,
  lengths_more c.args.told.now c.loop-one.one-index c.one-item.result c.loop-one-test.true c.one-item.is c.loop-one.lengths.items c.push_length.new.lengths.items c.loop-one.opens
      c.in_ok-push_length.ensures c.loop-one.invariant.0 c.loop-one.invariant.1,
)

pub returns : goal.returns
returns c = c.loop-one.invariant.1 ∙ ap finale_lengths (all_told c.args.told.now c.loop-one.one-index (omega arith))
