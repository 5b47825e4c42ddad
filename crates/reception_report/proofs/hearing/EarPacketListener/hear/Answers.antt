use Rattle.section_stream.specs.Cuts.{candidates}
use Rattle.reception_report.proofs.Receiving.{heard_more}
use Rattle.reception_report.proofs.hearing.EarPacketListener.hear.Goals as goal

pub returns : goal.returns
returns c = λ start packets h. heard_more start.demux.pid c.args.self.now _ packets c.args.packet.now _ h c.in_ok-sections.ensures.pid c.in_ok-sections.ensures.stands
    (λ ps s. c.in_ok-sections.ensures.cuts ps s) (λ f. rw c.deref.ensures.value at (c.in_ok-hear_each.ensures c.args.self.now.follower (candidates start.demux.pid packets) f)) (λ f. c.in_ok-take.ensures packets f)
