use Rattle.std.proofs.Common.{◌≡◌, ◌≤◌}
use Rattle.std.specs.List.{count_by, range_with_len}
use Rattle.module_cache.specs.Contents.{has_block}
use Rattle.reception_report.proofs.module_lines.count_there.Given as goal

abbrev pub invariant-loop-block : goal.invariant-loop-block
invariant-loop-block l = record {
  counted : l.count ≡ count_by (has_block l.stored.content) (range_with_len 0 l.block);
  few : l.count ≤ l.block;
}
