-- What callers cite: how one DII more changes the turns, and what is answered.
--
-- `by_admission` is by whether a DII turns or joins. What was admitted in a turn differs in identification (`newest_distinct`), over any
-- list that is heard (`distinct_from`). `answer_is` says that an answer on what is held is the one after what was heard.
pub use Rattle.tuner_core.proofs.Distinct.{AreDistinct, numbers, newest_distinct, distinct_from}
pub use Rattle.tuner_core.proofs.Showing.{answer_is}
pub use Rattle.tuner_core.proofs.Turning.{by_admission}
