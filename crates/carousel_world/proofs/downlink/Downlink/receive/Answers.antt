use Rattle.std.proofs.Common.{[], ◌∷◌, take, get_or, refl, ap, sym, ◌∙◌, subst, arith}
use Rattle.ts_packet.specs.declared.Fate.{Fate}
use Rattle.ts_packet.specs.Fates.{arrival_of}
use Rattle.carousel_world.specs.DownView.{DownlinkState}
use Rattle.carousel_world.specs.Inner.DownView.{Hears}
use Rattle.carousel_world.specs.Fates.{received_under}
use Rattle.carousel_world.proofs.Carrying.{one_heard, one_not_heard}
use Rattle.carousel_world.proofs.downlink.Downlink.receive.Goals as goal
use Rattle.carousel_world.proofs.downlink.Downlink.receive.Goals.{in-Some+in_ok-hear, in_default}

pub loop-packet-preserved : goal.loop-packet-preserved
loop-packet-preserved c =
    let packet = get_or c.args.packets.now c.loop-packet.packet-index [] in
    let fate = ap (λ (f : Fate). arrival_of f packet) c.fate_at.ensures in
    elim c.match-arrived.branch [
      | in-Some+in_ok-hear w ↦ record {
        number = omega arith;
        mux = ap (λ (s : DownlinkState). s.mux) w.self-is ∙ w.in_ok-hear.ensures.mux ∙ c.loop-packet.invariant.mux;
        hears = one_heard c.args.self.now c.loop-packet.self c.match-arrived.self c.args.fates.now c.args.from c.loop-packet.number c.loop-packet.packet-index c.args.packets.now packet w.in-Some.arrived []
            c.loop-packet.invariant.number c.loop-packet-test.true refl (sym w.in-Some.is ∙ c.arrived.ensures ∙ fate) c.loop-packet.invariant.hears
            (subst (λ (s : DownlinkState). Hears c.loop-packet.self s (w.in-Some.arrived ∷ [])) (sym w.self-is) w.in_ok-hear.ensures.hears);
      }
      | in_default w ↦ record {
        number = omega arith;
        mux = ap (λ (s : DownlinkState). s.mux) w.self-is ∙ c.loop-packet.invariant.mux;
        hears = one_not_heard c.args.self.now c.match-arrived.self c.args.fates.now c.args.from c.loop-packet.number c.loop-packet.packet-index c.args.packets.now packet []
            c.loop-packet.invariant.number c.loop-packet-test.true refl (sym w.in_default.is ∙ c.arrived.ensures ∙ fate)
            (subst (λ (s : DownlinkState). Hears c.args.self.now s (received_under c.args.fates.now c.args.from (take c.loop-packet.packet-index c.args.packets.now))) (sym w.self-is) c.loop-packet.invariant.hears);
      }
    ]
