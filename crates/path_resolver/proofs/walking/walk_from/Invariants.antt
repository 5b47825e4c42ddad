use Rattle.std.proofs.Common.{◌≡◌, drop}
use Rattle.path_resolver.specs.Resolving.{walk}
use Rattle.path_resolver.specs.Inner.Targets.{view_target}
use Rattle.path_resolver.proofs.walking.walk_from.Given as goal

abbrev pub invariant-loop-i : goal.invariant-loop-i
invariant-loop-i g l =
    walk l.carousel (g.H.Holding.state l.held) (drop l.i l.path) (view_target l.target)
    ≡ walk l.carousel (g.H.Holding.state l.held) l.path (l.gateway.location, l.gateway.delivery)
