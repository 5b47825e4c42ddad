use Rattle.rehearsal.proofs.Words.{ap, length, rules, err_from_is_err_and, finale_line, IsActor, line_at, none_left, at_place, item_comes, items_came, After}
use Rattle.session_script.specs.declared.script.Finale.{Finale}
use Rattle.rehearsal.proofs.Running.{has_run_as}
use Rattle.rehearsal.proofs.rehearsal.Rehearsal.open_all.Goals as goal

pub loop-last-init : goal.loop-last-init
loop-last-init g c = λ ws script left first h. h

pub run-requires : goal.run-requires
run-requires g c = let turn = item_comes c.into_iter-last-iterator.result c.args.finales.items (search rules) (search rules) c.loop-last.yielded c.loop-last.last-iterator c.loop-last.yielded_by c.next.new.self c.in-Some.is c.next.ensures.steps in
    at_place (λ (last : Finale). IsActor last.reader) c.args.finales.items _ c.in-Some.last c.requires turn.0 turn.1

pub loop-last-preserved : goal.loop-last-preserved
loop-last-preserved g c =
    let turn = item_comes c.into_iter-last-iterator.result c.args.finales.items (search rules) (search rules) c.loop-last.yielded c.loop-last.last-iterator c.loop-last.yielded_by c.next.new.self c.in-Some.is c.next.ensures.steps in
    λ ws script left first h. c.in_ok-run.ensures c.in-Some.last.number After ws script _ first
    (has_run_as (line_at finale_line c.args.finales.items c.loop-last.yielded left c.in-Some.last turn.0 turn.1) (c.loop-last.invariant ws script left first h))

pub returns-in_err-run : goal.returns-in_err-run
returns-in_err-run g c =
    let turn = item_comes c.into_iter-last-iterator.result c.args.finales.items (search rules) (search rules) c.loop-last.yielded c.loop-last.last-iterator c.loop-last.yielded_by c.next.new.self c.in-Some.is c.next.ensures.steps in
    let p = err_from_is_err_and c.from_residual.result c.from_residual.ensures.1 in
    λ ws script left first h. rw (p.1, p.2) (c.in_err-run.ensures c.in-Some.last.number After ws script _ first
    (has_run_as (line_at finale_line c.args.finales.items c.loop-last.yielded left c.in-Some.last turn.0 turn.1) (c.loop-last.invariant ws script left first h)))

pub returns : goal.returns
returns g c = let end = items_came c.into_iter-last-iterator.result c.args.finales.items (search rules) (search rules) c.loop-last.yielded c.loop-last.last-iterator c.loop-last.yielded_by c.next.new.self c.in-None.is c.next.ensures.steps in
    λ ws script left first h. has_run_as (none_left finale_line c.args.finales.items c.loop-last.yielded left (ap length end)) (c.loop-last.invariant ws script left first h)
