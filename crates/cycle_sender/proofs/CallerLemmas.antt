-- What callers cite: the packets of some sections and then those of others (`packs_then`, `counts_then`), and those of a group with its end
-- (`packs_group`, `counts_group`).
pub use Rattle.cycle_sender.proofs.Sending.{packs_then, counts_then, packs_group, counts_group}
