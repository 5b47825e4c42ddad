-- What crates above may cite: the written tables meet the condition of a packer.
pub use Rattle.psi_tables.proofs.Spelled.{pat_framed, pmt_framed}
