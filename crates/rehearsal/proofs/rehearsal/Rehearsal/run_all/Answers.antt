use Rattle.rehearsal.proofs.Words.{ap, length, rules, err_from_is_err_and, act_of, task_line, IsInRange, line_at, none_left, at_place, item_comes, items_came}
use Rattle.session_script.specs.declared.script.TaskLine.{TaskLine}
use Rattle.rehearsal.proofs.Running.{has_run_as}
use Rattle.rehearsal.proofs.rehearsal.Rehearsal.run_all.Goals as goal

pub loop-line-init : goal.loop-line-init
loop-line-init g c = λ stage ws script left first h. h

pub run-requires : goal.run-requires
run-requires g c = let turn = item_comes c.into_iter-line-iterator.result c.args.tasks.items (search rules) (search rules) c.loop-line.yielded c.loop-line.line-iterator c.loop-line.yielded_by c.next.new.self c.in-Some.is c.next.ensures.steps in
    at_place (λ (line : TaskLine). IsInRange (act_of line.task)) c.args.tasks.items _ c.in-Some.line c.requires turn.0 turn.1

pub loop-line-preserved : goal.loop-line-preserved
loop-line-preserved g c =
    let turn = item_comes c.into_iter-line-iterator.result c.args.tasks.items (search rules) (search rules) c.loop-line.yielded c.loop-line.line-iterator c.loop-line.yielded_by c.next.new.self c.in-Some.is c.next.ensures.steps in
    λ stage ws script left first h. c.in_ok-run.ensures c.in-Some.line.number stage ws script _ first
    (has_run_as (line_at (task_line stage) c.args.tasks.items c.loop-line.yielded left c.in-Some.line turn.0 turn.1) (c.loop-line.invariant stage ws script left first h))

pub returns-in_err-run : goal.returns-in_err-run
returns-in_err-run g c =
    let turn = item_comes c.into_iter-line-iterator.result c.args.tasks.items (search rules) (search rules) c.loop-line.yielded c.loop-line.line-iterator c.loop-line.yielded_by c.next.new.self c.in-Some.is c.next.ensures.steps in
    let p = err_from_is_err_and c.from_residual.result c.from_residual.ensures.1 in
    λ stage ws script left first h. rw (p.1, p.2) (c.in_err-run.ensures c.in-Some.line.number stage ws script _ first
    (has_run_as (line_at (task_line stage) c.args.tasks.items c.loop-line.yielded left c.in-Some.line turn.0 turn.1) (c.loop-line.invariant stage ws script left first h)))

pub returns : goal.returns
returns g c = let end = items_came c.into_iter-line-iterator.result c.args.tasks.items (search rules) (search rules) c.loop-line.yielded c.loop-line.line-iterator c.loop-line.yielded_by c.next.new.self c.in-None.is c.next.ensures.steps in
    λ stage ws script left first h. has_run_as (none_left (task_line stage) c.args.tasks.items c.loop-line.yielded left (ap length end)) (c.loop-line.invariant stage ws script left first h)
