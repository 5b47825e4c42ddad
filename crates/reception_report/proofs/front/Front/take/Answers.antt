use Rattle.std.proofs.Common.{arith, refl}
use Rattle.reception_report.proofs.Fronting.{front_more, front_same}
use Rattle.reception_report.proofs.front.Front.take.Goals as goal

pub returns-in_ok-extend_from_slice : goal.returns-in_ok-extend_from_slice
returns-in_ok-extend_from_slice c = λ packets f.
    front_more c.args.self.now _ packets c.args.packet.now f c.if-self-lt-MOST_PACKETS.true c.in_ok-extend_from_slice.ensures.items refl

pub returns-else-self-lt-MOST_PACKETS : goal.returns-else-self-lt-MOST_PACKETS
returns-else-self-lt-MOST_PACKETS c = λ packets f. front_same c.args.self.now packets c.args.packet.now f (omega arith)
