-- What callers cite. What was written, by what was put (`writes_all`, `writes_prefix`). That an input goes on after its limit (`goes_on`). And that a
-- command keeps its promise where there was no memory and nothing was read or written (`replies_nothing`, `serves_no_memory`, `inspects_nothing`,
-- `extracts_nothing`), or no section yet (`first_none`).
pub use Rattle.receiver_commands.proofs.Writing.{writes_all, writes_prefix}
pub use Rattle.receiver_commands.proofs.Replying.{goes_on, replies_nothing}
pub use Rattle.receiver_commands.proofs.Streaming.{first_none}
pub use Rattle.receiver_commands.proofs.Serving.{serves_no_memory}
pub use Rattle.receiver_commands.proofs.Reporting.{inspects_nothing}
pub use Rattle.receiver_commands.proofs.Unpacking.{extracts_nothing}
