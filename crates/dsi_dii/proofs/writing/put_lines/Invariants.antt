use Rattle.std.proofs.Common.{◌≡◌, ◌++◌, take}
use Rattle.std.specs.List.{flat_map, All}
use Rattle.dsi_dii.specs.Controls.{line_bytes, LineFits}
use Rattle.dsi_dii.proofs.writing.put_lines.Given as goal

abbrev pub invariant-loop-line : goal.invariant-loop-line
invariant-loop-line l = record {
  bytes : l.writer ≡ l.fn.writer ++ flat_map line_bytes (take l.line-index l.lines);
  fit : All LineFits (take l.line-index l.lines);
}
