use Rattle.std.proofs.Common.{IsTrue, sym, subst}
use Rattle.dsmcc_section.specs.Sections.{fields_of}
use Rattle.tuner_core.specs.Heard.{heard_in, heard_section}
use Rattle.tuner_core.specs.Stands.{asks}
use Rattle.tuner_core.proofs.Asking.{asks_control, on_error}
use Rattle.tuner_core.proofs.hearing.hear.Goals as goal

pub returns-in-Ok-Control-default-clause-memory : goal.returns-in-Ok-Control-default-clause-memory
returns-in-Ok-Control-default-clause-memory c =
    let h = c.in-Ok-Control-default in
    let read = fields_of h.field-0-0 c.args.candidate.now in
    on_error c.control_of.result _ (λ held.
    subst (λ r. IsTrue (asks held (heard_section r))) (sym h.ensures.found.0)
    (subst (λ t. IsTrue (asks held (heard_in t read.payload))) (sym h.field-0-0-is) (asks_control held _)))
