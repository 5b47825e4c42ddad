-- What callers cite. Where nothing was done: words that give no command, or no memory before one began (`fault_keeps`), with ends that are as they were
-- (`done_nothing`, `takes_nothing`). An output's sink is the one that was handed in (`sink_as`, `in_time_over`).
pub use Rattle.shell_commands.proofs.Declining.{done_nothing, fault_keeps, takes_nothing, sink_as, in_time_over}
