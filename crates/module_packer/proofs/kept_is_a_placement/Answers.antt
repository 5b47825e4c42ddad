use Rattle.module_packer.proofs.Kept.{kept_is}
use Rattle.module_packer.proofs.kept_is_a_placement.Goals as goal

pub returns : goal.returns
returns c = kept_is
