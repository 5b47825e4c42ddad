-- What callers cite of beginnings of a list, which known and told lists are.
--
-- `prefix_get` says that what stands in a beginning stands in the whole, and `prefix_whole` that a beginning as long as the
-- whole is the whole; `same_begins` says that each list begins itself, and `prefix_length` is on their lengths.
pub use Rattle.shot_board.proofs.Prefixes.{prefix_get, prefix_whole, same_begins, prefix_length}
