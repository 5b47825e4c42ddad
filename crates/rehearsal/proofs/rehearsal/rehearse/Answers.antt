use Rattle.rehearsal.proofs.Words.{[], ◌++◌, map, refl, sym, append-nil, err_from_is_err_and, before_in_range, during_in_range, finales_in_range, Before, During, task_line, settle_lines, finale_line, script_of_parts}
use Rattle.rehearsal.proofs.Running.{on_ok, meets_nothing, has_run_as, runs_first, rehearses_nothing, rehearses_so}
use Rattle.rehearsal.proofs.rehearsal.rehearse.Goals as goal

pub returns-in_err-rehearsal : goal.returns-in_err-rehearsal
returns-in_err-rehearsal g c = let p = err_from_is_err_and c.from_residual.result c.from_residual.ensures.1 in
    rw (p.1, p.2) (rehearses_nothing (script_of_parts c.args.parts) _ (meets_nothing c.every_run_meets_the_headline.ensures c.args.weigh.weights))

pub run_all-requires : goal.run_all-requires
run_all-requires g c = let ps = c.args.parts in before_in_range ps.before.items ps.during.items ps.settle ps.finales.items c.requires.lines

pub returns-in_err-run_all : goal.returns-in_err-run_all
returns-in_err-run_all g c = let ps = c.args.parts in let p = err_from_is_err_and c.from_residual-in_err-run_all.result c.from_residual-in_err-run_all.ensures.1 in
    let rest = settle_lines ps.settle ++ map finale_line ps.finales.items in
    rw (p.1, p.2) (c.in_err-run_all.ensures Before c.args.weigh.weights (script_of_parts ps) (map (task_line During) ps.during.items ++ rest) _ (runs_first (script_of_parts ps) _ c.in_ok-rehearsal.ensures))

pub run_all-requires-2 : goal.run_all-requires-2
run_all-requires-2 g c = let ps = c.args.parts in during_in_range ps.before.items ps.during.items ps.settle ps.finales.items c.requires.lines

pub open_all-requires : goal.open_all-requires
open_all-requires g c = let ps = c.args.parts in finales_in_range ps.before.items ps.during.items ps.settle ps.finales.items c.requires.lines

pub returns-in_err-run_all-2 : goal.returns-in_err-run_all-2
returns-in_err-run_all-2 g c = let ps = c.args.parts in let ws = c.args.weigh.weights in let script = script_of_parts ps in
    let p = err_from_is_err_and c.from_residual-in_err-run_all-2.result c.from_residual-in_err-run_all-2.ensures.1 in
    let rest = settle_lines ps.settle ++ map finale_line ps.finales.items in
    rw (p.1, p.2) (c.in_err-run_all-2.ensures During ws script rest _
    (c.in_ok-run_all.ensures Before ws script (map (task_line During) ps.during.items ++ rest) _ (runs_first script _ c.in_ok-rehearsal.ensures)))

pub returns-in_err-settle : goal.returns-in_err-settle
returns-in_err-settle g c = let ps = c.args.parts in let ws = c.args.weigh.weights in let script = script_of_parts ps in
    let p = err_from_is_err_and c.from_residual-in_err-settle.result c.from_residual-in_err-settle.ensures.1 in
    let last = map finale_line ps.finales.items in
    rw (p.1, p.2) (c.in_err-settle.ensures ws script last _ (c.in_ok-run_all-2.ensures During ws script (settle_lines ps.settle ++ last) _
    (c.in_ok-run_all.ensures Before ws script (map (task_line During) ps.during.items ++ (settle_lines ps.settle ++ last)) _ (runs_first script _ c.in_ok-rehearsal.ensures))))

pub returns-in_err-open_all : goal.returns-in_err-open_all
returns-in_err-open_all g c = let ps = c.args.parts in let ws = c.args.weigh.weights in let script = script_of_parts ps in
    let p = err_from_is_err_and c.from_residual-in_err-open_all.result c.from_residual-in_err-open_all.ensures.1 in
    let last = map finale_line ps.finales.items in
    rw (p.1, p.2) (c.in_err-open_all.ensures ws script [] _ (has_run_as (sym (append-nil last)) (c.in_ok-settle.ensures ws script last _
    (c.in_ok-run_all-2.ensures During ws script (settle_lines ps.settle ++ last) _
    (c.in_ok-run_all.ensures Before ws script (map (task_line During) ps.during.items ++ (settle_lines ps.settle ++ last)) _ (runs_first script _ c.in_ok-rehearsal.ensures))))))

pub returns : goal.returns
returns g c = let ps = c.args.parts in let ws = c.args.weigh.weights in let script = script_of_parts ps in
    let last = map finale_line ps.finales.items in
    rehearses_so c.flush.result (c.in_ok-open_all.ensures ws script [] _ (has_run_as (sym (append-nil last)) (c.in_ok-settle.ensures ws script last _
    (c.in_ok-run_all-2.ensures During ws script (settle_lines ps.settle ++ last) _
    (c.in_ok-run_all.ensures Before ws script (map (task_line During) ps.during.items ++ (settle_lines ps.settle ++ last)) _ (runs_first script _ c.in_ok-rehearsal.ensures))))))
    (on_ok c.flush.result refl) c.flush.ensures.puts c.flush.ensures.empty
