use Rattle.std.proofs.Common.{◌≡◌, drop, Some}
use Rattle.path_resolver.specs.Places.{last_target, module_at_end}
use Rattle.path_resolver.specs.Inner.Targets.{view_target}
use Rattle.path_resolver.proofs.walking.home_from.Given as goal

abbrev pub invariant-loop-i : goal.invariant-loop-i
invariant-loop-i g l =
    module_at_end (last_target l.carousel (g.H.Holding.state l.held) (drop l.i l.path) (Some (view_target l.target)))
    ≡ module_at_end (last_target l.carousel (g.H.Holding.state l.held) l.path (Some (l.gateway.location, l.gateway.delivery)))
