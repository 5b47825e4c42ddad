use Rattle.module_groups.specs.declared.TheConstants.{GREATEST_ID}
use Rattle.module_packer.specs.Kept.{Filled}
use Rattle.module_packer.specs.Inner.Sums.{Tells}
use Rattle.module_packer.proofs.Passing.{Settling}
use Rattle.module_packer.proofs.keeping.numbers.Given as goal

abbrev pub invariant-loop-size : goal.invariant-loop-size
invariant-loop-size l = (f : Filled) → Tells GREATEST_ID l.fn.filling.sums f → Settling GREATEST_ID f l.filling.sums l.modules.items l.others l.size-index
