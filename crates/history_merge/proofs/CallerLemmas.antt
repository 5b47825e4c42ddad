-- Lemmas for callers.

-- Lists that are filtered and counted, and what stands in them
pub use Rattle.history_merge.proofs.Lists.{filter_takes, filter_skips, count_more, count_same, get_next}
-- What is true of each open is true of those after a draw
pub use Rattle.history_merge.proofs.Ordering.{each_opened}
-- Whose commit an event tells, and that what a merge published is publishable
pub use Rattle.history_merge.proofs.Merged.{commit_told, merged_is_published}
