-- What callers need of outputs, and of what a reader of packets has taken.
pub use Rattle.shell_streams.proofs.Putting.{told_weaker, told_then, told_same, rose_first, rose_last, puts_nothing, puts_none, puts_then, puts_stop, puts_ok, puts_err, puts_as, told_here, all_rear}
pub use Rattle.shell_streams.proofs.Packeting.{packets_behind, packets_before, reader_stopped, reader_taken, taken_stopped}
