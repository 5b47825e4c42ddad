use Rattle.session_script.proofs.Imports.{◌≡◌, ◌+◌, length, During, map, act_of, task_line, number_lines}
use Rattle.session_script.proofs.generator.number_tasks.Given as goal

abbrev pub invariant-loop-task : goal.invariant-loop-task
invariant-loop-task l =
    (l.number ≡ 1 + length l.yielded) × (map (task_line During) l.lines.items ≡ number_lines 1 During (map act_of l.yielded))
