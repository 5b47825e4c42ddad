-- What crates above may cite: that reading and the relation of the bytes say the same, of a tap and of an IOR; and that the spelling reads back.
pub use Rattle.ior_tap.proofs.Grammar.{tap_agrees, ior_agrees, written_reads, written_again, spelling_length}
