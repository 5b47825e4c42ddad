use Rattle.std.proofs.Common.{rules, ◌≡◌, ◌==◌, cond, sym, ◌∙◌, subst}
use denote.Param.Callables.{held_fn}
use Rattle.broadcaster_rows.proofs.Weighing.{are_weights, weighs}
use Rattle.broadcaster_rows.proofs.weights.weighed.OwnLists.{own-1, at-1-1}
use Rattle.broadcaster_rows.proofs.weights.weighed.Goals as goal

pub new-weigh-requires-clause-weights : goal.new-weigh-requires-clause-weights
new-weigh-requires-clause-weights c = are_weights c.weight-first.result c.weight-others.result c.weight-first.ensures c.weight-others.ensures

-- What the box holds is the closure of these two weights, so that its clause speaks of them.
pub new-weigh-requires-clause-answers : goal.new-weigh-requires-clause-answers
new-weigh-requires-clause-answers c = λ m r low high e.
    let first = c.weight-first.result in
    let others = c.weight-others.result in
    let says : r ≡ cond (m == 1) first others =
    subst (λ t. (v : (own-1.entry t).0.Denot) → (own-1.entry t).0.coded.code v ≡ (own-1.entry at-1-1).0.coded.code c.in-Ok.call.value → (held_fn own-1).post (t, v) (m, tt) r → r ≡ cond (m == 1) first others)
    (sym c.into_dyn_box.ensures.0)
    (λ v p q. let it : v ≡ (first, others) = (own-1.entry at-1-1).0.coded.inj v c.in-Ok.call.value p ∙ c.in-Ok.ensures.ok in
    subst (λ z. (held_fn own-1).post (at-1-1, z) (m, tt) r → r ≡ cond (m == 1) first others) (sym it) (λ s. search (rules, s)) q)
    c.into_dyn_box.result.value c.into_dyn_box.ensures.1.codes e in
    says ∙ weighs first others m low high
