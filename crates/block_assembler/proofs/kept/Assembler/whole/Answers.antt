use Rattle.std.proofs.Common.{◌≡◌, not, sym, ◌∙◌}
use Rattle.std.specs.List.{count_by}
use Rattle.block_assembler.proofs.Whole.{all_came, is_whole, is_not_whole}
use Rattle.block_assembler.proofs.kept.Assembler.whole.Goals as goal

pub returns-then-self-eq0 : goal.returns-then-self-eq0
returns-then-self-eq0 c =
    let all : count_by not c.self.inside.there.items ≡ 0 = sym c.self.invariant.missing ∙ c.if-self-eq0.true in
    let whole = is_whole c.self.inside.size c.self.inside.block_size c.self.inside.bytes.items c.self.inside.there.items c.self.invariant.sizes.some_block_size (all_came c.self.inside c.self.invariant all) c.self.invariant.marks all in
    rw (← c.self.view_is, c.deref.ensures.value) (sym whole)

pub returns-else-self-eq0 : goal.returns-else-self-eq0
returns-else-self-eq0 c =
    let none = is_not_whole c.self.inside.size c.self.inside.block_size c.self.inside.bytes.items c.self.inside.there.items (λ e. c.if-self-eq0.false (c.self.invariant.missing ∙ e)) in
    rw (← c.self.view_is) (sym none)
