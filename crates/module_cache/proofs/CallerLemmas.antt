-- What callers cite: how the state of a cache moves with its turns, where something more was heard, where a DII turned and where one
-- joined.
--
-- `state_stays` is of something that is no block, `state_moves` of a block, where the DIIs of the newest turn list no module twice
-- (`AreTuned`), `state_turns` of a DII that turns, and `state_joins` of one that joins. `outlines_are` says what DIIs are compared
-- with, and `outline_joining` that a DII is held as it was described. `taken_all_is` and `slot_all_is` say that what is answered is
-- what looking back gives, `offer_keeps_all` that only a block that is new changes anything, and `bytes_among` which bytes a line
-- has. `within_once` is of each DII within the limits, and `apart_more`, `once_more` and `distinct_more` are of one more DII beside
-- others. The others are of lists.
pub use Rattle.module_cache.proofs.Answering.{taken_all_is, slot_all_is, bytes_among}
pub use Rattle.module_cache.proofs.Apart.{apart_more, once_more, distinct_more}
pub use Rattle.module_cache.proofs.Handling.{outline_joining}
pub use Rattle.module_cache.proofs.Keeping.{within_once}
pub use Rattle.module_cache.proofs.Lists.{map_like, find_like, any_map, map_map, find_map, found_there, found_later}
pub use Rattle.module_cache.proofs.Offering.{offer_keeps_all}
pub use Rattle.module_cache.proofs.Turning.{AreTuned, outlines_are, state_stays, state_moves, state_turns, state_joins}
