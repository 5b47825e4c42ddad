use Rattle.std.proofs.Common.{rules, ◌≡◌, [], ◌∷◌, sym, ◌∙◌, subst}
use Rattle.std.proofs.lemmas.List.Elements.{All-cons, All-nil}
use denote.Param.Callables.{held_fn}
use Rattle.cycle_planner.proofs.CallerLemmas.{are_ones, weighs_one}
use Rattle.station.proofs.CallerLemmas.{all_new}
use Rattle.session.specs.Seats.{IsEditorSeat}
use Rattle.shell_tests.proofs.actors.meet.OwnLists.{own-1}
use Rattle.shell_tests.proofs.actors.meet.Goals as goal

pub next_pass-requires : goal.next_pass-requires
next_pass-requires g c = all_new c.in_ok-station.station 0 c.in_ok-station.passes.items c.in_ok-station.ensures.passes

pub run_actors-requires-clause-editors : goal.run_actors-requires-clause-editors
run_actors-requires-clause-editors g c κs within =
    let IsOurs = IsEditorSeat c.in_ok-station.station in
    let first = c.in_ok-first.first in
    let second = c.in_ok-second.second in
    All-cons IsOurs first (second ∷ []) c.in_ok-first.ensures (All-cons IsOurs second [] c.in_ok-second.ensures (All-nil IsOurs))

pub new-weigh-requires-clause-weights : goal.new-weigh-requires-clause-weights
new-weigh-requires-clause-weights g c = are_ones

pub new-weigh-requires-clause-answers : goal.new-weigh-requires-clause-answers
new-weigh-requires-clause-answers g c = λ m r low high e.
    let one : r ≡ 1 = subst (λ t. (v : _) → (held_fn own-1).post (t, v) (m, tt) r → r ≡ 1) (sym c.into_dyn_box.ensures.0) (λ v q. search (rules, q)) c.into_dyn_box.result.value e in
    one ∙ weighs_one m low high
