use Rattle.std.proofs.Common.{◌≡◌, map, take}
use Rattle.path_resolver.specs.Resolving.{answer_of}
use Rattle.watch_desk.proofs.watched.answers_to.Given as goal

abbrev pub invariant-loop-path : goal.invariant-loop-path
invariant-loop-path g l = l.answers.items ≡ map (answer_of (g.H.Holding.state l.held)) (take l.path-index l.paths)
