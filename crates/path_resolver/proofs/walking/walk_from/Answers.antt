use Rattle.path_resolver.specs.Inner.Targets.{view_target}
use Rattle.path_resolver.proofs.Finding.{ends, goes}
use Rattle.path_resolver.proofs.walking.walk_from.Goals as goal

pub returns-in-Ends-clause-answer : goal.returns-in-Ends-clause-answer
returns-in-Ends-clause-answer g c = ends c.args.gateway.now.location.carousel (g.H.Holding.state c.args.held.now) c.args.path.now c.loop-i.i c.name.result.now (view_target c.loop-i.target) c.in-Ends.answer _
    c.name.ensures c.in-Ends.ensures c.loop-i.invariant

pub loop-i-preserved : goal.loop-i-preserved
loop-i-preserved g c = goes c.args.gateway.now.location.carousel (g.H.Holding.state c.args.held.now) c.args.path.now c.loop-i.i c.name.result.now (view_target c.loop-i.target) (view_target c.in-On.next) _
    c.name.ensures c.in-On.ensures c.loop-i.invariant
