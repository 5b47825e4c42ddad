use Rattle.mount_table.proofs.Deciding.{mount_decides}
use Rattle.mount_table.proofs.laws.one_mount_decides.Goals as goal

pub returns : goal.returns
returns c = mount_decides
