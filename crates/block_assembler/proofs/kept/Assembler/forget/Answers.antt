use Rattle.block_assembler.proofs.Calls.{stands_forget}
use Rattle.block_assembler.proofs.Places.{below_marks, forgotten, nothing_to_forget}
use Rattle.block_assembler.proofs.kept.Assembler.forget.Goals as goal

pub returns-then-index-clause-after : goal.returns-then-index-clause-after
returns-then-index-clause-after c =
    rw (← c.self.view_is) (forgotten c.self.inside.size c.self.inside.block_size c.self.inside.bytes.items c.self.inside.there.items c.from-place.result c.args.block c.from-place.ensures (below_marks _ _ _ _ c.args.self.now c.args.block c.self.view_is c.self.invariant.marks c.requires))

pub returns-then-index-clause-stands : goal.returns-then-index-clause-stands
returns-then-index-clause-stands c = stands_forget c.args.self.now _ c.args.block (returns-then-index-clause-after c) c.requires

pub returns-else-index-clause-after : goal.returns-else-index-clause-after
returns-else-index-clause-after c =
    rw (← c.self.view_is) (nothing_to_forget c.self.inside.size c.self.inside.block_size c.self.inside.bytes.items c.self.inside.there.items c.from-place.result c.args.block c.index.result.now c.from-place.ensures (below_marks _ _ _ _ c.args.self.now c.args.block c.self.view_is c.self.invariant.marks c.requires) c.index.ensures c.if-index.false)

pub returns-else-index-clause-stands : goal.returns-else-index-clause-stands
returns-else-index-clause-stands c = stands_forget c.args.self.now _ c.args.block (returns-else-index-clause-after c) c.requires
