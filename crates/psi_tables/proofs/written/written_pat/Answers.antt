use Rattle.std.proofs.Common.{ℕ, List, sym, subst}
use Rattle.std.proofs.lemmas.Result.{IfOk-weaker}
use Rattle.psi_tables.specs.Pats.{ReadsPat}
use Rattle.psi_tables.specs.Written.{pat_value}
use Rattle.psi_tables.proofs.Spelled.{pat_reads}
use Rattle.psi_tables.proofs.written.written_pat.Goals as goal

pub returns-clause-reads : goal.returns-clause-reads
returns-clause-reads c =
    IfOk-weaker c.written_table.result _ _ (λ v is. subst (λ (bytes : List ℕ). ReadsPat bytes pat_value) (sym is) pat_reads) c.written_table.ensures
