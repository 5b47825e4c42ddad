use Rattle.std.proofs.Common.{arith}
use Rattle.module_cache.specs.Contents.{has_block}
use Rattle.reception_report.proofs.Runs.{come_first, come_next, come_last, begun_at, begun_next}
use Rattle.reception_report.proofs.module_lines.missing_text.Goals as goal

pub loop-block-init : goal.loop-block-init
loop-block-init c = record { told = come_first (has_block c.args.stored.now.content) _ _ _ _ c.in_ok-text.ensures.ok c.block_count-blocks.ensures.count; begun = tt }

pub loop-block-preserved : goal.loop-block-preserved
loop-block-preserved c = record {
  told = come_next (has_block c.args.stored.now.content) c.loop-block.block _ c.loop-block.begun _ c.is_there.result _ _ _ (omega arith) c.is_there.ensures c.in_ok-begun.ensures.begun c.in_ok-begun.ensures.text c.loop-block.invariant.told;
  begun = begun_next c.loop-block.begun _ c.loop-block.block c.is_there.result c.in_ok-begun.ensures.begun c.loop-block.invariant.begun;
}

pub step-requires-2 : goal.step-requires-2
step-requires-2 c = begun_at c.loop-block.begun c.loop-block.block _ (omega arith) c.loop-block.invariant.begun

pub returns : goal.returns
returns c =
    come_last (has_block c.args.stored.now.content) c.loop-block.block _ c.loop-block.begun _ _ _ (omega arith) (omega arith) c.in_ok-step.ensures.text c.loop-block.invariant.told
