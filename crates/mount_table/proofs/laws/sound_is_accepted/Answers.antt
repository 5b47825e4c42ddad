use Rattle.mount_table.proofs.Deciding.{sound_is_accepted}
use Rattle.mount_table.proofs.laws.sound_is_accepted.Goals as goal

pub returns : goal.returns
returns c = sound_is_accepted
