use Rattle.std.proofs.Common.{◌≡◌, ◌+◌, ◌++◌, length, map, take, ap, ◌∙◌, arith}
use Rattle.std.proofs.lemmas.Result.{IfOk-weaker}
use Rattle.section_stream.specs.Kept.{view_bytes}
use Rattle.section_stream.specs.Packing.{last_of, packets_of, past}
use Rattle.carousel_world.specs.DownView.{DownlinkState}
use Rattle.carousel_world.proofs.Carrying.{all_sections, begun_hears, begun_mux, begun_number, ended_hears, ended_mux, ended_number, mux_aside, none_sent, one_section, one_sent, packets_fit, rest_fits, weaker}
use Rattle.carousel_world.proofs.downlink.Downlink.send.Goals as goal

pub receive-requires : goal.receive-requires
receive-requires c =
    let mux = ap (λ (d : DownlinkState). d.mux) c.self-in-loop-section.view_is in
    packets_fit c.args.self.now c.loop-section.self c.args.fates.now c.args.from c.loop-section.number c.loop-section.section-index c.args.sections.now c.section-item.result c.deref.result.now c.deref-in-loop-section.result.now
    c.requires.sections c.requires.few c.loop-section-test.true c.requires.from c.loop-section.invariant c.section-item.is c.deref.ensures.value
    (c.deref-in-loop-section.ensures.value ∙ c.in_ok-packets.ensures.packets ∙ ap (λ xs. xs ++ packets_of c.self-in-loop-section.inside.mux c.deref.result.now) c.clear.ensures.items ∙ ap (λ m. packets_of m c.deref.result.now) mux)

pub loop-section-init : goal.loop-section-init
loop-section-init c = none_sent c.args.self.now c.args.fates.now c.args.from

pub loop-section-preserved : goal.loop-section-preserved
loop-section-preserved c =
    let mux = ap (λ (d : DownlinkState). d.mux) c.self-in-loop-section.view_is in
    let next = c.in_ok-packets.ensures.state ∙ ap (λ m. past m c.deref.result.now) mux in
    one_sent c.args.self.now c.loop-section.self c.receive.new.self c.args.fates.now c.args.from c.loop-section.number c.in_ok-number.number
    (map view_bytes (take c.loop-section.section-index c.args.sections.now)) _ c.deref.result.now c.deref-in-loop-section.result.now
    (one_section c.args.sections.now c.loop-section.section-index c.section-item.result c.deref.result.now c.loop-section-test.true c.section-item.is c.deref.ensures.value)
    (c.deref-in-loop-section.ensures.value ∙ c.in_ok-packets.ensures.packets ∙ ap (λ xs. xs ++ packets_of c.self-in-loop-section.inside.mux c.deref.result.now) c.clear.ensures.items ∙ ap (λ m. packets_of m c.deref.result.now) mux)
    c.in_ok-number.ensures.number (c.in_ok-number.ensures.mux ∙ next)
    (mux_aside c.loop-section.self _ c.receive.new.self _ _ c.self-in-loop-section.view_is c.in_ok-number.ensures.hears) c.loop-section.invariant

pub send_rest-requires : goal.send_rest-requires
send_rest-requires c =
    rest_fits c.args.self.now c.loop-section.self c.args.fates.now c.args.from c.loop-section.number c.args.sections.now c.requires.sections c.requires.few c.requires.from
    (all_sections c.args.self.now c.loop-section.self c.args.fates.now c.args.from c.loop-section.number c.loop-section.section-index c.args.sections.now (omega arith) c.loop-section.invariant)

pub returns-then-last-clause-number : goal.returns-then-last-clause-number
returns-then-last-clause-number c =
    IfOk-weaker c.send_rest.result (λ n. n ≡ c.loop-section.number + length (last_of c.loop-section.self.mux)) _
    (λ n a. ended_number c.args.last c.args.self.now c.loop-section.self c.args.fates.now c.args.from c.loop-section.number n (map view_bytes c.args.sections.now) c.if-last.true a
    (all_sections c.args.self.now c.loop-section.self c.args.fates.now c.args.from c.loop-section.number c.loop-section.section-index c.args.sections.now (omega arith) c.loop-section.invariant)) c.send_rest.ensures.number

pub returns-then-last-clause-mux : goal.returns-then-last-clause-mux
returns-then-last-clause-mux c =
    weaker c.send_rest.result
    (λ m. ended_mux c.args.last c.args.self.now c.loop-section.self c.send_rest.new.self c.args.fates.now c.args.from c.loop-section.number (map view_bytes c.args.sections.now) c.if-last.true m
    (all_sections c.args.self.now c.loop-section.self c.args.fates.now c.args.from c.loop-section.number c.loop-section.section-index c.args.sections.now (omega arith) c.loop-section.invariant)) c.send_rest.ensures.mux

pub returns-then-last-clause-hears : goal.returns-then-last-clause-hears
returns-then-last-clause-hears c =
    weaker c.send_rest.result
    (λ h. ended_hears c.args.last c.args.self.now c.loop-section.self c.send_rest.new.self c.args.fates.now c.args.from c.loop-section.number (map view_bytes c.args.sections.now) c.if-last.true h
    (all_sections c.args.self.now c.loop-section.self c.args.fates.now c.args.from c.loop-section.number c.loop-section.section-index c.args.sections.now (omega arith) c.loop-section.invariant)) c.send_rest.ensures.hears

pub returns-clause-number : goal.returns-clause-number
returns-clause-number c =
    begun_number c.args.last c.args.self.now c.loop-section.self c.args.fates.now c.args.from c.loop-section.number (map view_bytes c.args.sections.now) c.if-last.false
    (all_sections c.args.self.now c.loop-section.self c.args.fates.now c.args.from c.loop-section.number c.loop-section.section-index c.args.sections.now (omega arith) c.loop-section.invariant)

pub returns-clause-mux : goal.returns-clause-mux
returns-clause-mux c =
    begun_mux c.args.last c.args.self.now c.loop-section.self c.args.fates.now c.args.from c.loop-section.number (map view_bytes c.args.sections.now) c.if-last.false
    (all_sections c.args.self.now c.loop-section.self c.args.fates.now c.args.from c.loop-section.number c.loop-section.section-index c.args.sections.now (omega arith) c.loop-section.invariant)

pub returns-clause-hears : goal.returns-clause-hears
returns-clause-hears c =
    begun_hears c.args.last c.args.self.now c.loop-section.self c.args.fates.now c.args.from c.loop-section.number (map view_bytes c.args.sections.now) c.if-last.false
    (all_sections c.args.self.now c.loop-section.self c.args.fates.now c.args.from c.loop-section.number c.loop-section.section-index c.args.sections.now (omega arith) c.loop-section.invariant)
