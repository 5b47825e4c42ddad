-- What crates above may cite: a message's relation and its reading say the same.
pub use Rattle.ddb_block.proofs.Laws.{message_is_read, read_is_message, spelling_is_message}
