use Rattle.ddb_block.proofs.Laws.{message_is_read, read_is_message, spelling_is_message}
use Rattle.ddb_block.proofs.header.messages_read.Goals as goal

pub returns : goal.returns
returns c = record { relation = message_is_read; reading = read_is_message; spells = spelling_is_message }
