use Rattle.module_packer.proofs.Fresh.{fresh_is}
use Rattle.module_packer.proofs.fresh_is_a_placement.Goals as goal

pub returns : goal.returns
returns c = fresh_is
