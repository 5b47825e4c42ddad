use Rattle.std.proofs.Common.{arith}
use Rattle.block_assembler.proofs.Places.{is_above, is_marked}
use Rattle.block_assembler.proofs.kept.Assembler.is_there.Goals as goal

pub returns-then-place-len : goal.returns-then-place-len
returns-then-place-len c =
    rw (← c.self.view_is) (is_above c.self.inside.size c.self.inside.block_size c.self.inside.bytes.items c.self.inside.there.items c.args.block (omega arith))

pub returns : goal.returns
returns c =
    rw (← c.self.view_is) (is_marked c.self.inside.size c.self.inside.block_size c.self.inside.bytes.items c.self.inside.there.items c.from-place.result c.args.block c.index.result.now
    c.from-place.ensures (omega arith) c.index.ensures)
