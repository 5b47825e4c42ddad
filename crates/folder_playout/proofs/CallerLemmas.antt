-- What callers cite: that nothing was read yet (`nothing_read`), and that the cycles of generation 1 are those of its publication (`sent_sections`).
pub use Rattle.folder_playout.proofs.Answered.{nothing_read}
pub use Rattle.folder_playout.proofs.Unchanged.{sent_sections}
