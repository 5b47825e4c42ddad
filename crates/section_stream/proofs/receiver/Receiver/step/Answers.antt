use Rattle.ts_packet.specs.Packets.{view}
use Rattle.section_stream.specs.Kept.{view_receiver}
use Rattle.section_stream.proofs.Longer.{other_gives}
use Rattle.section_stream.proofs.receiver.Receiver.step.Goals as goal

pub returns-then-fields-self-clause-ok : goal.returns-then-fields-self-clause-ok
returns-then-fields-self-clause-ok c =
    other_gives (view_receiver c.self.inside) c.args.self.now c.args.packet.now (view c.in-Some.fields) _ _ c.self.view_is c.in-Some.ensures.1 c.if-fields-self.true c.count_aside.ensures
