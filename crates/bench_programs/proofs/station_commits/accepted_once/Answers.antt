use Rattle.std.proofs.Common.{rules, ◌≡◌, length, sym, ap, ◌∙◌, subst}
use Rattle.std.specs.List.{All}
use Rattle.std.proofs.lemmas.List.{with_items_is}
use Rattle.station.specs.Passes.{IsStationPass, AreAllPasses}
use Rattle.station.proofs.CallerLemmas.{all_new, are_all}
use denote.Param.Callables.{held_fn}
use Rattle.cycle_planner.proofs.CallerLemmas.{are_ones, weighs_one}
use Rattle.bench_programs.proofs.station_commits.accepted_once.OwnLists.{own-1}
use Rattle.bench_programs.proofs.station_commits.accepted_once.Goals as goal

pub edit_all-requires-after_bounds : goal.edit_all-requires-after_bounds
edit_all-requires-after_bounds g c κs within =
    let made = c.in_ok-station in
    subst (All (IsStationPass made.station)) (sym c.as_mut_slice.ensures.value) (all_new made.station 0 made.passes.items made.ensures.passes)

pub close-requires : goal.close-requires
close-requires g c =
    let made = c.in_ok-station in
    let now = c.edit_all.new.passes in
    let kept : length now ≡ length made.passes.items = c.edit_all.auto.passes ∙ ap length c.as_mut_slice.ensures.value in
    subst (AreAllPasses made.station) (sym (with_items_is made.passes now (kept ∙ sym made.passes.ok.0))) (are_all made.station now c.edit_all.ensures (kept ∙ made.ensures.all ∙ sym made.ensures.count))

pub new-weigh-requires-clause-weights : goal.new-weigh-requires-clause-weights
new-weigh-requires-clause-weights g c = are_ones

pub new-weigh-requires-clause-answers : goal.new-weigh-requires-clause-answers
new-weigh-requires-clause-answers g c = λ m r low high e.
    let one : r ≡ 1 = subst (λ t. (v : _) → (held_fn own-1).post (t, v) (m, tt) r → r ≡ 1) (sym c.into_dyn_box.ensures.0) (λ v q. search (rules, q)) c.into_dyn_box.result.value e in
    one ∙ weighs_one m low high
