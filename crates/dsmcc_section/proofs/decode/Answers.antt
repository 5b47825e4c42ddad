use Rattle.std.proofs.Common.{sym, ◌∙◌, ap, Ok, arith}
use Rattle.dsmcc_section.proofs.Readings.{what_is_read, relation_is_read}
use Rattle.dsmcc_section.proofs.decode.Goals as goal

pub returns-in_err-table-clause-only : goal.returns-in_err-table-clause-only
returns-in_err-table-clause-only c = λ s r. absurd (cc (relation_is_read c.args.bytes.now s r, c.in_err-table.ensures))

pub returns-clause-found : goal.returns-clause-found
returns-clause-found c =
    what_is_read c.args.bytes.now _ (λ i. omega (arith, c.type_inv.bytes i))
    (c.in_ok-table.ensures.1 ∙ ap Ok (sym c.in_ok-section_of.ensures.section))

pub returns-clause-only : goal.returns-clause-only
returns-clause-only c = λ s r.
    sym (relation_is_read c.args.bytes.now s r) ∙ c.in_ok-table.ensures.1 ∙ ap Ok (sym c.in_ok-section_of.ensures.section)
