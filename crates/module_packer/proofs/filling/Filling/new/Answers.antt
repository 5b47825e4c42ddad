use Rattle.module_groups.specs.declared.TheConstants.{GREATEST_ID}
use Rattle.module_packer.proofs.Telling.{none_told}
use Rattle.module_packer.proofs.filling.Filling.new.Goals as goal

pub returns : goal.returns
returns c = none_told GREATEST_ID
