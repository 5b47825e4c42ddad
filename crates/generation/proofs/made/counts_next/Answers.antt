use Rattle.std.proofs.Common.{◌≡◌, ◌+◌, ◌++◌, ◌∷◌, [], ◌∙◌, ap, sym, map, arith, lit<}
use Rattle.generation.proofs.Words.{LAST_GENERATION, range_with_len, count_after, view_listed, map-range_with_len_more}
use Rattle.generation.proofs.Writing.{small_count}
use Rattle.generation.proofs.made.counts_next.Goals as goal

pub overflow_add-count_in : goal.overflow_add-count_in
overflow_add-count_in c = omega (arith, small_count c.args.counts.now c.loop-id.id LAST_GENERATION (lit< tt) c.requires.counts, c.count_in.ensures, c.changes.ensures.once)

pub loop-id-preserved : goal.loop-id-preserved
loop-id-preserved c = λ before marked.
    let f = count_after before (map view_listed c.args.modules.now) c.args.counts.now in
    let is : c.count_in.result + c.changes.result ≡ f c.loop-id.id = omega (arith, c.count_in.ensures, c.changes.ensures.changes before marked) in
    c.in_ok-push.ensures.items
    ∙ (λ j. c.loop-id.invariant before marked j ++ is j ∷ []) ∙ sym (map-range_with_len_more f 0 c.loop-id.id c.loop-id.id (omega arith))

pub returns : goal.returns
returns c = λ before marked. c.loop-id.invariant before marked ∙ ap (λ n. map (count_after before (map view_listed c.args.modules.now) c.args.counts.now) (range_with_len 0 n)) (omega (arith, c.ids_counted-end.ensures))
