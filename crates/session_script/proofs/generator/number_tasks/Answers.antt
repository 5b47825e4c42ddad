use Rattle.session_script.proofs.Imports.{◌∷◌, [], refl, arith, length-map, length_push, map-append, During, map, act_of, task_line, number_lines}
use Rattle.session_script.proofs.Lists.{push_last}
use Rattle.session_script.proofs.Generating.{number_lines-append}
use Rattle.session_script.proofs.generator.number_tasks.Goals as goal

pub loop-task-preserved : goal.loop-task-preserved
loop-task-preserved c =
    let acts = map act_of c.loop-task.yielded in let one = act_of c.in-Some.task ∷ [] in
    let count = length-map c.loop-task.yielded act_of in let long = length_push c.loop-task.yielded c.in-Some.task in let next = c.loop-task.invariant.0 in (
      omega (arith, long, next),
      rw (c.in_ok-push.ensures.items, map-append act_of c.loop-task.yielded (c.in-Some.task ∷ []), number_lines-append 1 c.loop-task.number During acts one (omega (arith, count, next)))
          (push_last (task_line During) c.loop-task.lines.items [] (number_lines 1 During acts) _ _ c.loop-task.invariant.1 refl),
    )
