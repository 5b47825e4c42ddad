use Rattle.std.proofs.Common.{sym, ◌∙◌, ap}
use Rattle.section_stream.specs.Rules.{Receiving}
use Rattle.section_stream.proofs.Keeping.{kept_none, kept_some}
use Rattle.section_stream.proofs.receiver.Receiver.last_kept.Goals as goal

pub returns-then-self-lt-PACKET_LENGTH : goal.returns-then-self-lt-PACKET_LENGTH
returns-then-self-lt-PACKET_LENGTH c = kept_some _ c.self.inside.payload_at c.self.inside.counter c.self.inside.last _ (sym (ap (λ (r : Receiving). r.last) c.self.view_is) ∙ c.self.invariant) c.if-self-lt-PACKET_LENGTH.true c.bytes_from.ensures

pub returns-else-self-lt-PACKET_LENGTH : goal.returns-else-self-lt-PACKET_LENGTH
returns-else-self-lt-PACKET_LENGTH c = kept_none _ c.self.inside.payload_at c.self.inside.counter c.self.inside.last (sym (ap (λ (r : Receiving). r.last) c.self.view_is) ∙ c.self.invariant) c.if-self-lt-PACKET_LENGTH.false
