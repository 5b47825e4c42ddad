use Rattle.files_alone.proofs.Answered.{replies_same}
use Rattle.files_alone.proofs.replies_stay_the_same.Goals as goal

pub returns : goal.returns
returns c = replies_same c.files_stay_the_same.ensures
