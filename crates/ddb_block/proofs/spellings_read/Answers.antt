use Rattle.std.proofs.Common.{length}
use Rattle.ddb_block.proofs.Laws.{block_is_read, spelling_reads, spelling_length}
use Rattle.ddb_block.specs.Blocks.{spelling}
use Rattle.ddb_block.proofs.spellings_read.Goals as goal

pub returns : goal.returns
returns c = record { reads = spelling_reads; is_read = λ b fits short. block_is_read (spelling b) b (spelling_reads b fits short); length = spelling_length }
