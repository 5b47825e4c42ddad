use Rattle.std.proofs.Common.{◌≡◌, subst}
use Rattle.std.specs.Prelude.{IfOk}
use Rattle.dsmcc_section.specs.Sections.{spelling}
use Rattle.dsmcc_section.proofs.encode.Goals as goal

pub returns-clause-spells : goal.returns-clause-spells
returns-clause-spells c =
    let s = c.args.section.now in
    subst (λ payload. IfOk c.encode_parts.result (λ bytes. bytes.items ≡ spelling (record { table = s.table; extension = s.extension; version = s.version; number = s.number; last = s.last; payload = payload })))
    c.deref.ensures.value c.encode_parts.ensures.spells
