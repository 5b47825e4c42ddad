use Rattle.section_stream.proofs.Outputs.{candidates-grow}
use Rattle.section_stream.proofs.laws.candidates_grow.Goals as goal

pub returns : goal.returns
returns c = candidates-grow
