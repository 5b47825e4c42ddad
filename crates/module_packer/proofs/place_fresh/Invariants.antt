use Rattle.module_packer.proofs.Fresh.{IsPlaced}
use Rattle.module_packer.proofs.place_fresh.Given as goal

abbrev pub invariant-loop-size : goal.invariant-loop-size
invariant-loop-size l = IsPlaced l.modules.items l.packing l.sizes l.size-index
