use Rattle.std.proofs.Common.{◌≡◌, drop}
use Rattle.path_resolver.specs.Comparing.{same_names}
use Rattle.path_resolver.proofs.comparing.has_same_names.Given as goal

-- it depends on the names that are left
abbrev pub invariant-loop-i : goal.invariant-loop-i
invariant-loop-i l = same_names l.a l.b ≡ same_names (drop l.i l.a) (drop l.i l.b)
