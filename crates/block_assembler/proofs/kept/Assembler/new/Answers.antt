use Rattle.std.proofs.Common.{rules}
use Rattle.block_assembler.proofs.Calls.{stands_new}
use Rattle.block_assembler.proofs.Whole.{made_empty}
use Rattle.block_assembler.proofs.kept.Assembler.new.Goals as goal

pub returns-clause-made : goal.returns-clause-made
returns-clause-made c = made_empty c.args.size c.args.block_size c.block_count-blocks.result c.in_ok-bytes.bytes.items c.in_ok-there.there.items (search rules) c.block_count-blocks.ensures.count

pub returns-clause-stands : goal.returns-clause-stands
returns-clause-stands c = rw (returns-clause-made c) (stands_new c.args.size c.args.block_size)
