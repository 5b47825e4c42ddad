use Rattle.std.proofs.Common.{◌≡◌, ap, lit≤}
use Rattle.generation.proofs.Words.{gateway_location}
use Rattle.ior_tap.specs.Iors as iors
use Rattle.biop_object.specs.declared.reading.TheConstants.{GATEWAY}
use Rattle.generation.proofs.Writing.{gateway_written}
use Rattle.generation.proofs.control.dsi_section.Goals as goal

pub encode_dsi-requires : goal.encode_dsi-requires
encode_dsi-requires c = (gateway_location c.args.carousel, gateway_written c.args.carousel (iors.view c.in_ok-gateway.field-0) c.in_ok-gateway.ensures)

pub control-requires : goal.control-requires
control-requires c =
    let kind : c.in_ok-gateway.field-0.kind ≡ GATEWAY = ap (λ (i : iors.Fields). i.kind) c.in_ok-gateway.ensures in
    rw (c.in_ok-payload.ensures.spells (gateway_location c.args.carousel) (gateway_written c.args.carousel _ c.in_ok-gateway.ensures), kind) (lit≤ tt)

pub returns-clause-spells : goal.returns-clause-spells
returns-clause-spells c =
    let kind : c.in_ok-gateway.field-0.kind ≡ GATEWAY = ap (λ (i : iors.Fields). i.kind) c.in_ok-gateway.ensures in
    rw (c.in_ok-payload.ensures.spells (gateway_location c.args.carousel) (gateway_written c.args.carousel _ c.in_ok-gateway.ensures), kind, c.dsi.ensures) at c.control.ensures.spells
