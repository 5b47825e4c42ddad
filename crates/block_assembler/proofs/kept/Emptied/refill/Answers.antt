use Rattle.std.proofs.Common.{ap, sym, ◌∙◌}
use Rattle.block_assembler.specs.Blocks.{EmptiedState, refilled}
use Rattle.block_assembler.proofs.Whole.{is_whole, is_refilled}
use Rattle.block_assembler.proofs.kept.Emptied.refill.Goals as goal

pub returns-clause-whole : goal.returns-clause-whole
returns-clause-whole c =
    is_whole c.self.inside.size c.self.inside.block_size c.args.bytes.items c.self.inside.there.items c.self.invariant.sizes.some_block_size (c.requires ∙ ap (λ (e : EmptiedState). e.size) (sym c.self.view_is)) c.self.invariant.marks c.self.invariant.all

pub returns-clause-blocks : goal.returns-clause-blocks
returns-clause-blocks c =
    is_refilled c.self.inside.size c.self.inside.block_size c.args.bytes.items c.self.inside.there.items c.self.invariant.marks c.self.invariant.all
    ∙ ap (λ (e : EmptiedState). refilled e c.args.bytes.items) c.self.view_is
