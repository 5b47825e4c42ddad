use Rattle.std.proofs.Common.{sym, ◌∙◌, ap, arith, length, length-drop}
use Rattle.ts_packet.specs.Packets.{view}
use Rattle.section_stream.specs.Kept.{last_of, view_receiver}
use Rattle.section_stream.specs.Rules.{Receiving}
use Rattle.section_stream.proofs.Longer.{longer_done}
use Rattle.section_stream.proofs.receiver.Receiver.goes_on_quickly.Goals as goal

pub returns-clause-taken : goal.returns-clause-taken
returns-clause-taken c = λ same.
    longer_done (view_receiver c.self.inside) c.args.self.now c.args.packet.now (view c.args.fields) c.self.inside.payload_at c.self.inside.counter c.self.inside.last _ _ _
    c.self.view_is c.requires.packet c.requires.pid (omega (arith, ap length c.requires.payload, length-drop 4 c.args.packet.now, c.told-packet)) (sym (ap (λ (r : Receiving). r.last) c.self.view_is) ∙ c.self.invariant) (omega (arith, c.if-fields-counter_after.false, c.counter_after.ensures))
    c.if-fields.false (c.grow_within.ensures.grown c.if-not-grow_within.false).0
    (ap last_of c.requires.packet) (c.grow_within.ensures.grown c.if-not-grow_within.false).1 c.count_packet.ensures
