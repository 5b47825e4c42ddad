use Rattle.std.proofs.Common.{◌≡◌, take, map}
use Rattle.generation.proofs.Words.{lines_in, view_listed}
use Rattle.generation.proofs.made.lines_of_modules.Given as goal

abbrev pub invariant-loop-listed : goal.invariant-loop-listed
invariant-loop-listed l = l.lines.items ≡ lines_in (map view_listed (take l.listed-index l.modules))
