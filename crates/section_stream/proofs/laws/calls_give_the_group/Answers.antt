use Rattle.section_stream.proofs.Calling.{calls-give-the-group}
use Rattle.section_stream.proofs.laws.calls_give_the_group.Goals as goal

pub returns : goal.returns
returns c = calls-give-the-group
