use Rattle.path_resolver.specs.Inner.Targets.{view_target}
use Rattle.path_resolver.proofs.Placing.{home_ends, home_goes}
use Rattle.path_resolver.proofs.walking.home_from.Goals as goal

pub returns-in-Ends : goal.returns-in-Ends
returns-in-Ends g c = home_ends c.args.gateway.now.location.carousel (g.H.Holding.state c.args.held.now) c.args.path.now c.loop-i.i c.name.result.now (view_target c.loop-i.target) _ _
    c.name.ensures c.in-Ends.ensures c.loop-i.invariant

pub loop-i-preserved : goal.loop-i-preserved
loop-i-preserved g c = home_goes c.args.gateway.now.location.carousel (g.H.Holding.state c.args.held.now) c.args.path.now c.loop-i.i c.name.result.now (view_target c.loop-i.target) (view_target c.in-On.next) _
    c.name.ensures c.in-On.ensures c.loop-i.invariant
