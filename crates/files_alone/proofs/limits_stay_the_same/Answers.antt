use Rattle.files_alone.proofs.Sized.{limits_same}
use Rattle.files_alone.proofs.limits_stay_the_same.Goals as goal

pub returns : goal.returns
returns c = limits_same
