use Rattle.std.proofs.Common.{◌≡◌, ◌++◌, subst}
use Rattle.std.specs.Prelude.{IfOk}
use Rattle.long_section.specs.Frames as frames
use Rattle.dsmcc_section.specs.Sections.{fields_with, frame}
use Rattle.dsmcc_section.proofs.written.Goals as goal

pub returns-clause-spells : goal.returns-clause-spells
returns-clause-spells c =
    let s = fields_with c.args.header.now (c.args.front.now ++ c.args.rest.now) in
    subst (λ id. IfOk c.write_frame.result (λ bytes. bytes.items ≡ frames.spelling id (frame s))) c.id_of.ensures c.write_frame.ensures.spells
