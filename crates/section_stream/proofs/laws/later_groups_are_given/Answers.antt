use Rattle.section_stream.proofs.Later.{later-groups}
use Rattle.section_stream.proofs.laws.later_groups_are_given.Goals as goal

pub returns : goal.returns
returns c = later-groups
