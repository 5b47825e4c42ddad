-- Lemmas for callers: equal answers tell nothing, and a desk that stands for shots goes on with one more.
pub use Rattle.watch_desk.proofs.Due.{nothing_told}
pub use Rattle.watch_desk.proofs.Over.{told_more}
pub use Rattle.watch_desk.proofs.Lists.{last_more}
