use Rattle.files_alone.proofs.Followed.{generations_same}
use Rattle.files_alone.proofs.generations_stay_the_same.Goals as goal

pub returns : goal.returns
returns c = generations_same
