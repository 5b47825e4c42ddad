use Rattle.std.proofs.Common.{◌≡◌, arith, sym, ◌∙◌}
use Rattle.std.specs.List.{count_by}
use Rattle.std.specs.Prelude.{not}
use Rattle.block_assembler.proofs.Whole.{all_came, is_whole, is_not_whole, is_refilled}
use Rattle.block_assembler.proofs.kept.Assembler.finish.Goals as goal

pub returns-then-self-gt0-clause-bytes : goal.returns-then-self-gt0-clause-bytes
returns-then-self-gt0-clause-bytes c =
    let none = is_not_whole c.self.inside.size c.self.inside.block_size c.self.inside.bytes.items c.self.inside.there.items (λ e. absurd (omega (arith, c.self.invariant.missing, c.if-self-gt0.true, e))) in
    rw (← c.self.view_is) none

pub returns-clause-bytes : goal.returns-clause-bytes
returns-clause-bytes c =
    let all : count_by not c.self.inside.there.items ≡ 0 = omega (arith, c.self.invariant.missing, c.if-self-gt0.false) in
    let whole = is_whole c.self.inside.size c.self.inside.block_size c.self.inside.bytes.items c.self.inside.there.items c.self.invariant.sizes.some_block_size (all_came c.self.inside c.self.invariant all) c.self.invariant.marks all in
    rw (← c.self.view_is) whole

pub returns-clause-emptied : goal.returns-clause-emptied
returns-clause-emptied c =
    let all : count_by not c.self.inside.there.items ≡ 0 = omega (arith, c.self.invariant.missing, c.if-self-gt0.false) in
    sym c.self.view_is ∙ is_refilled c.self.inside.size c.self.inside.block_size c.self.inside.bytes.items c.self.inside.there.items c.self.invariant.marks all

pub returns-clause-size : goal.returns-clause-size
returns-clause-size c = all_came c.self.inside c.self.invariant (omega (arith, c.self.invariant.missing, c.if-self-gt0.false))
