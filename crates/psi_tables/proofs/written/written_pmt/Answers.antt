use Rattle.std.proofs.Common.{ℕ, ◌<◌, List, sym, ap, subst, ◌∙◌, arith}
use Rattle.std.proofs.lemmas.Result.{IfOk-weaker}
use Rattle.psi_tables.specs.Pmts.{ReadsPmt, read_pmt}
use Rattle.psi_tables.specs.Written.{pmt_spelling, pmt_value}
use Rattle.psi_tables.proofs.Spelled.{pmt_reads}
use Rattle.psi_tables.proofs.Streams.{pmt_read}
use Rattle.psi_tables.proofs.written.written_pmt.Goals as goal

pub returns-clause-spells : goal.returns-clause-spells
returns-clause-spells c = rw c.to_be_bytes.ensures at c.written_table.ensures

pub returns-clause-reads : goal.returns-clause-reads
returns-clause-reads c =
    let fits : c.args.carousel < 4294967296 = omega (arith, c.ranges.carousel.fits) in
    IfOk-weaker c.written_table.result _ _ (λ v is. subst (λ (bytes : List ℕ). ReadsPmt bytes (pmt_value c.args.carousel)) (sym is) (pmt_reads c.args.carousel fits)) (returns-clause-spells c)

pub returns-clause-is_read : goal.returns-clause-is_read
returns-clause-is_read c =
    let fits : c.args.carousel < 4294967296 = omega (arith, c.ranges.carousel.fits) in
    IfOk-weaker c.written_table.result _ _ (λ v is. ap read_pmt is ∙ pmt_read (pmt_spelling c.args.carousel) (pmt_value c.args.carousel) (pmt_reads c.args.carousel fits)) (returns-clause-spells c)
