-- What crates above may cite: that a reading function and a relation say the same, part by part; and what a loop reads.
pub use Rattle.oc_bytes.proofs.Agree.{fits_front, fits_back, fits_taken, each_fits, bytes_fit, bind_ok, then_agrees, Ends, done_agrees, agrees_by, IsWide, wide_1, wide_2, wide_4, IsNumber, number_agrees, AreBytes, bytes_agrees, each_agrees, held_ok, wide_8, joined, last, IsSized, sized_agrees}
pub use Rattle.oc_bytes.proofs.Loops.{with_front, goes_on, ends, is_done, begins, pass_on, pass_ends, pass_done, pass_begins}
pub use Rattle.oc_bytes.specs.Agreement.{Then, IsList}
pub use Rattle.oc_bytes.proofs.Grammars.{grammar_agrees, fits_reads, spelled_again, spelled_front, front_spelled, from_some, from_fault, StandsFirst, is_found, front_read, fault_inside, put, passes, counted_read, read_here, stops_here}
pub use Rattle.oc_bytes.proofs.Parts.{part_is, cut_passes, Passes}
pub use Rattle.oc_bytes.specs.Agreement.{Nested, Counted}
pub use Rattle.oc_bytes.proofs.Runs.{Shortens, whole_run, run_more, run_end, left_within}
