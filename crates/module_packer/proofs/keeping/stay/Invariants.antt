use Rattle.module_groups.specs.declared.TheConstants.{GREATEST_ID}
use Rattle.module_packer.specs.Kept.{Filled}
use Rattle.module_packer.specs.Inner.Sums.{Tells}
use Rattle.module_packer.proofs.Passing.{Staying}
use Rattle.module_packer.proofs.keeping.stay.Given as goal

abbrev pub invariant-loop-size : goal.invariant-loop-size
invariant-loop-size l = (f : Filled) → Tells GREATEST_ID l.fn.filling.sums f → Staying GREATEST_ID f l.filling.sums l.stayed.items l.objects l.size-index
