use Rattle.section_stream.proofs.Keeping.{rest_in}
use Rattle.section_stream.proofs.receiver.bytes_from.Goals as goal

pub returns : goal.returns
returns c = rest_in c.args.at c.args.packet.now c.told-packet
