use Rattle.std.proofs.Common.{length, get_or, Some, sym, ap, ◌∙◌, arith}
use Rattle.generation.proofs.Words.{option_map, size_of, gateway_spot, get_or-map, length-map}
use Rattle.generation.proofs.Weighing.{large_at, top_spot}
use Rattle.generation.proofs.limit.first_large.Goals as goal

pub loop-index-preserved : goal.loop-index-preserved
loop-index-preserved c = λ t all each is.
    c.loop-index.invariant t all each is
    ∙ rw c.if-is_large.false at (large_at t all c.args.spots.now c.args.sizes.now c.loop-index.index top_spot c.is_large.result each is (omega arith) (c.is_large.ensures t all))

pub returns-then-is_large-clause-large : goal.returns-then-is_large-clause-large
returns-then-is_large-clause-large c = λ t all each is.
    sym (c.loop-index.invariant t all each is
    ∙ rw c.if-is_large.true at (large_at t all c.args.spots.now c.args.sizes.now c.loop-index.index top_spot c.is_large.result each is (omega arith) (c.is_large.ensures t all)))

pub returns-then-is_large-clause-size : goal.returns-then-is_large-clause-size
returns-then-is_large-clause-size c = λ t all each is.
    let size = get_or-map (size_of all) all c.loop-index.index gateway_spot 0 (omega (arith, ap length is, length-map all (size_of all))) in
    ap (λ l. Some (get_or l c.loop-index.index 0)) is ∙ ap Some size ∙ ap (option_map (size_of all)) (returns-then-is_large-clause-large c t all each is)
