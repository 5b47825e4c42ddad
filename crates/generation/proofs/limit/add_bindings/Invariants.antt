use Rattle.generation.proofs.Weighing.{SizedUpTo}
use Rattle.generation.proofs.limit.add_bindings.Given as goal

abbrev pub invariant-loop-spot : goal.invariant-loop-spot
invariant-loop-spot l = SizedUpTo l.tree l.spot-index l.sizes
