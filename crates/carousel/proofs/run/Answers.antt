use Rattle.std.proofs.Common.{rules, ◌≡◌, ◌==◌, cond, sym, ◌∙◌, subst}
use denote.Param.Callables.{held_fn}
use Rattle.carousel.proofs.run.OwnLists.{own-1}
use Rattle.cycle_planner.proofs.CallerLemmas.{are_twice_first, weighs_first_twice}
use Rattle.carousel.proofs.run.Goals as goal

pub new-weigh-requires-clause-weights : goal.new-weigh-requires-clause-weights
new-weigh-requires-clause-weights g c = are_twice_first

pub new-weigh-requires-clause-answers : goal.new-weigh-requires-clause-answers
new-weigh-requires-clause-answers g c = λ m r low high e.
    let says : r ≡ cond (m == 1) 2 1 = subst (λ t. (v : _) → (held_fn own-1).post (t, v) (m, tt) r → r ≡ cond (m == 1) 2 1) (sym c.into_dyn_box.ensures.0) (λ v q. search (rules, q)) c.into_dyn_box.result.value e in
    says ∙ weighs_first_twice m low high
