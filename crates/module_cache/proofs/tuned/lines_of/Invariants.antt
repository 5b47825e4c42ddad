use Rattle.std.proofs.Common.{◌≡◌, map, take}
use Rattle.module_cache.specs.Held.{line_fresh}
use Rattle.module_cache.proofs.tuned.lines_of.Given as goal

abbrev pub invariant-loop-line : goal.invariant-loop-line
invariant-loop-line l = l.lines.items ≡ map (line_fresh l.block_size) (take l.line-index l.modules)
