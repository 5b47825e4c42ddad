use Rattle.std.proofs.Common.{◌≡◌, ℕ, cond, refl, arith, ap, ◌∙◌}
use Rattle.std.specs.List.{count_by, range_with_len}
use Rattle.module_cache.specs.Contents.{has_block}
use Rattle.reception_report.proofs.Runs.{count_one}
use Rattle.reception_report.proofs.module_lines.count_there.Goals as goal

pub loop-block-init : goal.loop-block-init
loop-block-init c = record { counted = refl; few = omega arith }

pub loop-block-preserved : goal.loop-block-preserved
loop-block-preserved c = record {
  counted = count_one (has_block c.args.stored.now.content) c.loop-block.block c.loop-block.count c.one_where-count.result
      (c.one_where-count.ensures.one ∙ ap (λ t. cond {A = ℕ} t 1 0) c.is_there.ensures) c.loop-block.invariant.counted;
  few = omega (arith, c.one_where-count.ensures.few, c.loop-block.invariant.few);
}

pub returns : goal.returns
returns c =
    let last : c.loop-block.block ≡ c.block_count-block-end.result = omega arith in
    c.loop-block.invariant.counted ∙ ap (λ n. count_by (has_block c.args.stored.now.content) (range_with_len 0 n)) (last ∙ c.block_count-block-end.ensures.count)
