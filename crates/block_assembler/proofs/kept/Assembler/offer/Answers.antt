use Rattle.std.proofs.Common.{ℕ, ◌*◌, ap, arith, refl, sym, ◌∙◌}
use Rattle.block_assembler.specs.declared.Offer.TheVariants.{WrongPlace, WrongLength, Again}
use Rattle.block_assembler.proofs.Calls.{stands_offer}
use Rattle.block_assembler.proofs.Places.{is_wrong_place, is_wrong_length, is_again, is_new_block, not_taken, taken}
use Rattle.block_assembler.proofs.kept.Assembler.offer.Goals as goal

pub returns-then-place-len-clause-answer : goal.returns-then-place-len-clause-answer
returns-then-place-len-clause-answer c =
    rw (← c.self.view_is) (is_wrong_place c.self.inside.size c.self.inside.block_size c.self.inside.bytes.items c.self.inside.there.items c.args.block c.args.bytes.now (omega arith) c.self.invariant.marks)

pub returns-then-place-len-clause-after : goal.returns-then-place-len-clause-after
returns-then-place-len-clause-after c =
    not_taken c.args.self.now c.args.block c.args.bytes.now WrongPlace (returns-then-place-len-clause-answer c) refl

pub returns-then-place-len-clause-stands : goal.returns-then-place-len-clause-stands
returns-then-place-len-clause-stands c =
    stands_offer c.args.self.now c.args.self.now c.args.block c.args.bytes.now (returns-then-place-len-clause-after c)

pub returns-then-bytes-from-clause-answer : goal.returns-then-bytes-from-clause-answer
returns-then-bytes-from-clause-answer c =
    rw (← c.self.view_is) (is_wrong_length c.self.inside.size c.self.inside.block_size c.self.inside.bytes.items c.self.inside.there.items c.args.block c.args.bytes.now (omega arith) c.self.invariant.marks (λ e. c.if-bytes-from.true (e ∙ sym c.block_span.ensures ∙ sym c.from.ensures)))

pub returns-then-bytes-from-clause-after : goal.returns-then-bytes-from-clause-after
returns-then-bytes-from-clause-after c =
    not_taken c.args.self.now c.args.block c.args.bytes.now WrongLength (returns-then-bytes-from-clause-answer c) refl

pub returns-then-bytes-from-clause-stands : goal.returns-then-bytes-from-clause-stands
returns-then-bytes-from-clause-stands c =
    stands_offer c.args.self.now c.args.self.now c.args.block c.args.bytes.now (returns-then-bytes-from-clause-after c)

pub returns-then-index-clause-answer : goal.returns-then-index-clause-answer
returns-then-index-clause-answer c =
    rw (← c.self.view_is) (is_again c.self.inside.size c.self.inside.block_size c.self.inside.bytes.items c.self.inside.there.items c.from-place.result c.args.block c.index.result.now c.args.bytes.now
    c.from-place.ensures (omega arith) c.index.ensures c.if-index.true c.self.invariant.marks (c.if-bytes-from.false ∙ c.from.ensures ∙ c.block_span.ensures))

pub returns-then-index-clause-after : goal.returns-then-index-clause-after
returns-then-index-clause-after c =
    not_taken c.args.self.now c.args.block c.args.bytes.now Again (returns-then-index-clause-answer c) refl

pub returns-then-index-clause-stands : goal.returns-then-index-clause-stands
returns-then-index-clause-stands c =
    stands_offer c.args.self.now c.args.self.now c.args.block c.args.bytes.now (returns-then-index-clause-after c)

pub returns-clause-answer : goal.returns-clause-answer
returns-clause-answer c =
    rw (← c.self.view_is) (is_new_block c.self.inside.size c.self.inside.block_size c.self.inside.bytes.items c.self.inside.there.items c.from-place.result c.args.block c.index.result.now c.args.bytes.now
    c.from-place.ensures (omega arith) c.index.ensures c.if-index.false c.self.invariant.marks (c.if-bytes-from.false ∙ c.from.ensures ∙ c.block_span.ensures))

pub returns-clause-after : goal.returns-clause-after
returns-clause-after c =
    let o = rw (← c.self.view_is) at (returns-clause-answer c) in
    rw (← c.self.view_is) (taken c.self.inside c.self.invariant c.args.block c.from-place.result _ c.args.bytes.now _ (omega arith) c.from-place.ensures
    (ap (λ (k : ℕ). c.from-place.result * k) c.from-2.ensures) (c.if-bytes-from.false ∙ c.from.ensures ∙ c.block_span.ensures) o c.put.ensures.bytes)

pub returns-clause-stands : goal.returns-clause-stands
returns-clause-stands c = stands_offer c.args.self.now _ c.args.block c.args.bytes.now (returns-clause-after c)
