use Rattle.module_packer.proofs.Remaining.{objects_stay}
use Rattle.module_packer.proofs.objects_stay_where_there_is_room.Goals as goal

pub returns : goal.returns
returns c = objects_stay
