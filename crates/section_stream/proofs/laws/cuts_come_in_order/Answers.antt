use Rattle.section_stream.proofs.Places.{cuts_in_order}
use Rattle.section_stream.proofs.laws.cuts_come_in_order.Goals as goal

pub returns : goal.returns
returns c = cuts_in_order
