use Rattle.std.proofs.Common.{Ok, sym, ap, ◌∙◌, arith, subst}
use Rattle.long_section.specs.Frames.{fields_of}
use Rattle.psi_tables.specs.Pats.{ReadsPat}
use Rattle.psi_tables.proofs.Lines.{pat_found, pat_again, pat_is}
use Rattle.long_section.proofs.CallerLemmas.{AreBytes, body_bytes}
use Rattle.psi_tables.proofs.pat.decode_pat.Goals as goal

pub returns-in_err-frame-clause-only : goal.returns-in_err-frame-clause-only
returns-in_err-frame-clause-only c = λ p h. absurd (cc ((pat_again c.args.bytes.now p h).faultless, c.in_err-frame.ensures))

pub returns-clause-found : goal.returns-clause-found
returns-clause-found c =
    let bytes = c.args.bytes.now in
    let small : AreBytes bytes = λ i. omega (arith, c.type_inv.bytes i) in
    subst (λ p. ReadsPat bytes p) (pat_is c.in_ok-frame.frame c.in_ok-lines.lines (fields_of bytes) c.in_ok-frame.ensures.1 c.in_ok-lines.ensures)
    (pat_found bytes small (body_bytes bytes small) c.in_ok-frame.ensures.0)

pub returns-clause-only : goal.returns-clause-only
returns-clause-only c = λ p h.
    ap Ok (sym (pat_again c.args.bytes.now p h).value ∙ pat_is c.in_ok-frame.frame c.in_ok-lines.lines (fields_of c.args.bytes.now) c.in_ok-frame.ensures.1 c.in_ok-lines.ensures)
