use Rattle.module_packer.proofs.Fresh.{IsUnderway}
use Rattle.module_packer.proofs.need.Given as goal

abbrev pub invariant-loop-size : goal.invariant-loop-size
invariant-loop-size l = IsUnderway l.packing l.sizes l.size-index
