use Rattle.std.proofs.Common.{ℕ, ◌≡◌, ◌==◌, List, Option, Result, ap, sym, subst, ◌∙◌}
use Rattle.std.specs.Result.{OnOk}
use Rattle.psi_tables.specs.declared.followed.Program.{Program}
use Rattle.psi_tables.specs.Pmts.{PmtFields}
use Rattle.psi_tables.specs.Finding.{if_read, pmt_in}
use Rattle.psi_tables.specs.Inner.Steps.{after_pmt, put}
use Rattle.psi_tables.proofs.followed.Followed.take.Goals as goal

pub returns-clause-programs : goal.returns-clause-programs
returns-clause-programs c =
    let old = c.args.self.now.programs.items in
    let program = c.in-Ok.pmt.program in
    let entry : Option ℕ → Program = λ n. record { program = program; named = n } in
    let e : put (λ x. x.program == program) (entry c.named_in.result) old ≡ after_pmt c.args.carousel old (pmt_in c.args.section.now) =
    ap (λ (n : Option ℕ). put (λ x. x.program == program) (entry n) old) c.named_in.ensures
    ∙ ap (λ (r : Result PmtFields ℕ). after_pmt c.args.carousel old (if_read r)) (sym c.in-Ok.ensures.exact) in
    subst (λ (xs : List Program). OnOk c.note.result (c.note.new.programs.items ≡ xs)) e c.note.ensures
