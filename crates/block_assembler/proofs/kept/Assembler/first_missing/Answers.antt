use Rattle.block_assembler.proofs.Whole.{missing_here, none_missing}
use Rattle.block_assembler.proofs.kept.Assembler.first_missing.Goals as goal

pub returns-then-not-there : goal.returns-then-not-there
returns-then-not-there c =
    rw (← c.self.view_is) (missing_here c.self.inside.size c.self.inside.block_size c.self.inside.bytes.items c.self.inside.there.items c.deref-there-items.result.now c.loop-place.place
    c.deref-there-items.ensures.value c.loop-place-test.true c.loop-place.invariant c.if-not-there.true)

pub returns : goal.returns
returns c =
    rw (← c.self.view_is) (none_missing c.self.inside.size c.self.inside.block_size c.self.inside.bytes.items c.self.inside.there.items c.deref-there-items.result.now c.loop-place.place
    c.deref-there-items.ensures.value c.loop-place-test.false c.loop-place.invariant)
