use Rattle.std.proofs.Common.{◌≡◌, ◌++◌}
use Rattle.std.specs.String.{string_bytes}
use Rattle.module_cache.specs.Contents.{has_block}
use Rattle.reception_report.specs.Inner.Missing.{IsBegun}
use Rattle.reception_report.specs.Telling.{missing_text}
use Rattle.reception_report.proofs.Runs.{to_come}
use Rattle.reception_report.proofs.module_lines.missing_text.Given as goal

abbrev pub invariant-loop-block : goal.invariant-loop-block
invariant-loop-block l = record {
  told : string_bytes l.text ++ to_come (has_block l.stored.content) l.block l.begun l.blocks ≡ missing_text l.stored;
  begun : IsBegun l.begun l.block;
}
