use Rattle.std.proofs.Common.{rules, ◌≡◌, sym, ◌∙◌, subst}
use denote.Param.Callables.{held_fn}
use Rattle.cycle_planner.proofs.CallerLemmas.{are_ones, weighs_one}
use Rattle.shell_tests.proofs.sessions.outcome.OwnLists.{own-1}
use Rattle.shell_tests.proofs.sessions.outcome.Goals as goal

pub new-weigh-requires-clause-weights : goal.new-weigh-requires-clause-weights
new-weigh-requires-clause-weights g c = are_ones

pub new-weigh-requires-clause-answers : goal.new-weigh-requires-clause-answers
new-weigh-requires-clause-answers g c = λ m r low high e.
    let one : r ≡ 1 = subst (λ t. (v : _) → (held_fn own-1).post (t, v) (m, tt) r → r ≡ 1) (sym c.into_dyn_box.ensures.0) (λ v q. search (rules, q)) c.into_dyn_box.result.value e in
    one ∙ weighs_one m low high
