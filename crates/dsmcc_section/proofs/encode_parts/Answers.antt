use Rattle.std.proofs.Common.{◌++◌, sym, subst}
use Rattle.dsmcc_section.specs.Sections.{Reads, IsFramed, fields_with}
use Rattle.dsmcc_section.proofs.Readings.{spelling_reads, spelling_framed}
use Rattle.dsmcc_section.proofs.encode_parts.Goals as goal

pub returns-clause-reads : goal.returns-clause-reads
returns-clause-reads c =
    let s = fields_with c.args.header.now (c.args.front.now ++ c.args.rest.now) in
    subst (λ bytes. Reads bytes s) (sym c.in_ok-written.ensures.spells) (spelling_reads s c.written.ensures.fits)

pub returns-clause-framed : goal.returns-clause-framed
returns-clause-framed c =
    let s = fields_with c.args.header.now (c.args.front.now ++ c.args.rest.now) in
    subst (λ bytes. IsFramed bytes) (sym c.in_ok-written.ensures.spells) (spelling_framed s c.written.ensures.fits)
