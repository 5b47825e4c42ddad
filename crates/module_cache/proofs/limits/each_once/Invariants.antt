use Rattle.std.proofs.Common.{◌≡◌, drop}
use Rattle.module_cache.specs.Joining.{no_id_twice}
use Rattle.module_cache.proofs.limits.each_once.Given as goal

abbrev pub invariant-loop-i : goal.invariant-loop-i
invariant-loop-i l = no_id_twice l.lines ≡ no_id_twice (drop l.i l.lines)
