use Rattle.std.proofs.Common.{◌≡◌, take, map}
use Rattle.generation.proofs.Words.{dii_lines, view_listed}
use Rattle.generation.proofs.control.module_lines.Given as goal

abbrev pub invariant-loop-listed : goal.invariant-loop-listed
invariant-loop-listed l = l.lines.items ≡ dii_lines l.counts (map view_listed (take l.listed-index l.modules))
