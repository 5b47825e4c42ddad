use Rattle.std.proofs.Common.{ap, refl}
use Rattle.ts_packet.specs.Packets.{view}
use Rattle.section_stream.specs.Kept.{view_receiver, last_of}
use Rattle.section_stream.proofs.Completing.{takes_gives}
use Rattle.section_stream.proofs.Taking.{as_before, takes_done, uncounted}
use Rattle.section_stream.proofs.Keeping.{kept_of_packet}
use Rattle.section_stream.proofs.receiver.Receiver.take.Goals as goal

pub returns-in-Ok-clause-ok : goal.returns-in-Ok-clause-ok
returns-in-Ok-clause-ok c =
    takes_done (view_receiver c.self.inside) c.args.self.now (view c.args.fields) c.args.jumped _ _ c.count_packet.new.counts _ _ _ _ _
    c.self.view_is c.requires.jumped (ap last_of c.requires.packet) refl c.count_packet.ensures refl c.in-Ok.ensures.done

pub returns-in-Err-clause-memory : goal.returns-in-Err-clause-memory
returns-in-Err-clause-memory c =
    takes_gives (view_receiver c.self.inside) c.args.self.now (view c.args.fields) c.args.jumped _ c.count_packet.new.counts
    c.self.view_is c.requires.jumped refl c.count_packet.ensures c.in-Err.ensures.memory

pub returns-in-Err-clause-err : goal.returns-in-Err-clause-err
returns-in-Err-clause-err c =
    as_before (view_receiver c.self.inside) c.args.self.now _ _ c.self.view_is c.in-Err.ensures.err.0
    (uncounted c.args.jumped c.self.inside.counts c.count_packet.new.counts _ c.count_packet.ensures c.in-Err.ensures.err.1)

pub invariant_of-self : goal.invariant_of-self
invariant_of-self c = kept_of_packet c.args.packet.now (view c.args.fields) _ c.told-packet c.requires.packet c.requires.payload.0 refl
